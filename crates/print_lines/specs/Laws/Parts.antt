-- The lines as they are put on a page, part after part. Assumes nothing.
use Rattle.std.specs.Prelude.{◌≡◌, refl, List, [], ◌∷◌, ◌++◌, ℕ, length, get_or, Result}
use Rattle.std.proofs.Common.{ap, ◌∙◌, append_assoc, arith, eq-eqb, ne_eqb}
use Rattle.base.specs.Lists.{tally}
use Rattle.transit.specs.Message.{between, rank}
use Rattle.transit.specs.declared.Message.{Message}
use Rattle.print_page.specs.Laws.Text.{numbers_append}
use Rattle.print_page.specs.Text.{decimal, hex, newline, numbers, space}
use Rattle.answer.specs.Answer.{number, values}
use Rattle.answer.specs.declared.Values.{Values}
use Rattle.answer.specs.declared.Refusal.{Refusal}
use Rattle.print_lines.specs.Lines.{record_line, pair_word, pair_line, counts_at_places, lines_of_pair}

-- A record's line is its position, its kind, the numbers of its answer and the line's end.
pub record_parts :
    (position kind : ℕ) (a : Result Values Refusal) {n : ℕ} {ns : List ℕ} → n ≡ number a → ns ≡ values a →
    decimal position ++ (space ∷ hex kind) ++ numbers (n ∷ ns) ++ (newline ∷ []) ≡ record_line position kind a
unfolding record_line
record_parts position kind a e f = rw (e, f)

-- Four counts, read one by one, are the counts.
four_of : (ns : List ℕ) → length ns ≡ 4 → get_or ns 0 0 ∷ get_or ns 1 0 ∷ get_or ns 2 0 ∷ get_or ns 3 0 ∷ [] ≡ ns
four_of (a ∷ b ∷ c ∷ d ∷ []) e = refl
four_of (a ∷ b ∷ c ∷ d ∷ f ∷ ns) e = absurd (omega (arith, e))
four_of (a ∷ b ∷ c ∷ []) e = absurd (omega (arith, e))
four_of (a ∷ b ∷ []) e = absurd (omega (arith, e))
four_of (a ∷ []) e = absurd (omega (arith, e))
four_of [] e = absurd (omega (arith, e))

-- A pair's line is the word, the two ranks, the counts and the line's end.
pub pair_parts : (a b : ℕ) (ns : List ℕ) → pair_word ++ numbers (a ∷ b ∷ []) ++ numbers ns ++ (newline ∷ []) ≡ pair_line a b ns
unfolding pair_line
pair_parts a b ns =
    let ranks = a ∷ b ∷ [] in
    ap (λ (t : List ℕ). t ++ (newline ∷ []))
    (append_assoc pair_word (numbers ranks) (numbers ns) ∙ ap (λ (t : List ℕ). pair_word ++ t) (numbers_append ranks ns))

-- Of four counts, read one by one, it is these six numbers.
pub pair_of_four : (a b : ℕ) (ns : List ℕ) → length ns ≡ 4 →
    pair_word ++ numbers (a ∷ b ∷ get_or ns 0 0 ∷ get_or ns 1 0 ∷ get_or ns 2 0 ∷ get_or ns 3 0 ∷ []) ++ (newline ∷ []) ≡ pair_line a b ns
unfolding pair_line
pair_of_four a b ns e = ap (λ l. pair_word ++ numbers (a ∷ b ∷ l) ++ (newline ∷ [])) (four_of ns e)

module _ (l : List Message) (a b : ℕ) where
  -- A pair with nothing unread has no line.
  pub no_line : tally (between (rank a) (rank b)) l ≡ 0 → [] ≡ lines_of_pair l a b
  no_line e = rw (eq-eqb (tally (between (rank a) (rank b)) l) 0 e)

  -- A pair with something unread has its line.
  pub one_line :
      (tally (between (rank a) (rank b)) l ≡ 0 → ⊥) → {ns : List ℕ} → ns ≡ counts_at_places l a b → pair_line a b ns ≡ lines_of_pair l a b
  one_line e same = rw (ne_eqb (tally (between (rank a) (rank b)) l) 0 e, same)
