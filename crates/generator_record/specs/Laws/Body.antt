-- Laws of the bodies that the code tells apart: what is drawn for one, two and three fields. Assumes nothing.
use Rattle.std.specs.Prelude.{◌≡◌, refl, true, false, List, [], ◌∷◌, ℕ, ◌%◌, ◌≤◌, ◌<◌}
use Rattle.std.proofs.Common.{sym, true≢false, arith}
use Rattle.transit.specs.Message.{ranks}
use Rattle.record.specs.Record.{bytes_of}
use Rattle.generator_record.specs.Body.{fields_in, has_second, second_below, has_value}
use Rattle.generator_draw.specs.Draw.{draw}
use Rattle.generator_record.specs.MadeUp.{body, body_leaves}
use Rattle.generator_record.specs.declared.Body.{Body}
use Rattle.generator_record.specs.declared.Body.TheVariants.{Rank, RankAndHost, Ranks, RanksAndValue}

-- what a body is, and the word that it leaves
pub record Draws (fields : Body) (word : ℕ) (bytes : List ℕ) (left : ℕ) : Type 0 where
  pub drawn : bytes ≡ body (fields_in fields) word
  pub leaves : left ≡ body_leaves (fields_in fields) word

pub second_within : (fields : Body) → (0 < second_below fields) × (second_below fields ≤ ranks)
second_within Rank = (omega arith, omega arith)
second_within RankAndHost = (omega arith, omega arith)
second_within Ranks = (omega arith, omega arith)
second_within RanksAndValue = (omega arith, omega arith)

module _ (word : ℕ) where
  abbrev first : ℕ
  first = draw word

  abbrev second : ℕ
  second = draw first

  pub one_field : (fields : Body) → has_second fields ≡ false → Draws fields word (first % ranks ∷ []) first
  one_field Rank none = record { drawn = refl; leaves = refl }
  one_field RankAndHost none = absurd (true≢false none)
  one_field Ranks none = absurd (true≢false none)
  one_field RanksAndValue none = absurd (true≢false none)

  pub two_fields : (fields : Body) → has_second fields ≡ true → has_value fields ≡ false
      → Draws fields word (first % ranks ∷ second % second_below fields ∷ []) second
  two_fields Rank some none = absurd (true≢false (sym some))
  two_fields RankAndHost some none = record { drawn = refl; leaves = refl }
  two_fields Ranks some none = record { drawn = refl; leaves = refl }
  two_fields RanksAndValue some none = absurd (true≢false none)

  pub three_fields : (fields : Body) → has_value fields ≡ true
      → Draws fields word (first % ranks ∷ second % second_below fields ∷ bytes_of (draw second)) (draw second)
  three_fields Rank has = absurd (true≢false (sym has))
  three_fields RankAndHost has = absurd (true≢false (sym has))
  three_fields Ranks has = absurd (true≢false (sym has))
  three_fields RanksAndValue has = record { drawn = refl; leaves = refl }
