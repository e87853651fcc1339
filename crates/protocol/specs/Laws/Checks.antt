-- The checks: where none applies, the row of each refusal is false; and a refusal is given exactly where its row is the first that
-- applies. A row is named by its refusal and not by its place in the table. Assumes nothing.
use Rattle.std.specs.Prelude.{◌≡◌, refl, Bool, true, false, cond, List, [], ◌∷◌, ◌++◌, ℕ, eqb}
use Rattle.std.proofs.Common.{ap, arith}
use Rattle.std.proofs.Math.Option.{none, some}
use Rattle.answer.specs.Answer.{refusal_number}
use Rattle.protocol.specs.Checks.{Check, checks, first_of, refusal}
use Rattle.broker.specs.State.{State}
use Rattle.answer.specs.declared.Refusal.{Refusal}
use Rattle.record.specs.declared.Record.{Record}

-- the row of a refusal in a list of rows; false where the list has none
abbrev pub row_of : Refusal → List Check → State → Record → Bool
row_of n [] s r = false
row_of n (c ∷ cs) s r = cond (eqb (refusal_number n) (refusal_number c.refusal)) (c.given s r) (row_of n cs s r)

-- where a list of rows gives nothing, its first row does not apply
head_false : (c : Check) (cs : List Check) (s : State) (r : Record) → first_of (c ∷ cs) s r ≡ none → c.given s r ≡ false
head_false c cs s r = at (c.given s r)
  where
    at : (b : Bool) → cond b (some c.refusal) (first_of cs s r) ≡ none → b ≡ false
    at true e = let z : ◌≡◌ {A = ℕ} 0 1 = cc in absurd (omega arith)
    at false e = refl

-- and no row of it does, by whichever refusal it is named
pub none_given : (cs : List Check) (s : State) (r : Record) → first_of cs s r ≡ none → (n : Refusal) → row_of n cs s r ≡ false
none_given [] s r h n = refl
none_given (c ∷ cs) s r h n =
    let off = head_false c cs s r h in
    rw (off, none_given cs s r (rw off at h) n) (either (eqb (refusal_number n) (refusal_number c.refusal)))
  where
    either : (b : Bool) → cond b false false ≡ false
    either true = refl
    either false = refl

-- where no check applies to a record, the row of each refusal is false
pub passes : (s : State) (r : Record) → refusal s r ≡ none → (n : Refusal) → row_of n checks s r ≡ false
unfolding refusal
passes s r = none_given checks s r

-- a row of a list is the first that applies: it applies, and none before it does
pub record FirstRow (cs : List Check) (s : State) (r : Record) (n : Refusal) : Type 0 where
  pub before : List Check
  pub row : Check
  pub after : List Check
  pub stands : cs ≡ before ++ row ∷ after
  pub passed : first_of before s r ≡ none
  pub applies : row.given s r ≡ true
  pub gives : row.refusal ≡ n

-- a refusal is given only where its row is the first that applies
pub given_is_first : (cs : List Check) (s : State) (r : Record) (n : Refusal) → first_of cs s r ≡ some n → FirstRow cs s r n
given_is_first [] s r n h = let z : ◌≡◌ {A = ℕ} 0 1 = cc in absurd (omega arith)
given_is_first (c ∷ cs) s r n h = at (c.given s r) refl h (given_is_first cs s r n)
  where
    at :
        (b : Bool) → c.given s r ≡ b →
        cond b (some c.refusal) (first_of cs s r) ≡ some n →
        (first_of cs s r ≡ some n → FirstRow cs s r n) →
        FirstRow (c ∷ cs) s r n
    at true g e later = record { before = []; row = c; after = cs; stands = refl; passed = refl; applies = g; gives = cc }
    at false g e later =
        let f = later e in
        record {
          before = c ∷ f.before;
          row = f.row;
          after = f.after;
          stands = ap (λ (l : List Check). c ∷ l) f.stands;
          passed = rw g f.passed;
          applies = f.applies;
          gives = f.gives;
        }

-- and wherever its row is the first that applies
pub first_is_given : (cs : List Check) (s : State) (r : Record) (n : Refusal) → FirstRow cs s r n → first_of cs s r ≡ some n
first_is_given cs s r n f = rw f.stands (go f.before f.passed)
  where
    go : (before : List Check) → first_of before s r ≡ none → first_of (before ++ f.row ∷ f.after) s r ≡ some n
    go [] h = rw (f.applies, f.gives)
    go (c ∷ cs) h =
        let off = head_false c cs s r h in
        rw off (go cs (rw off at h))
