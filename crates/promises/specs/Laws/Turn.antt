-- What a turn promises, read off its contract. Assumes nothing.
use Rattle.std.specs.Prelude.{Bool, List, [], ◌++◌, ◌≡◌, refl, ℕ, ◌≤◌, take}
use Rattle.std.proofs.Common.{append-nil, ap, ◌∙◌, arith}
use Rattle.broker.specs.State.{State}
use Rattle.print_run.specs.Printed.{lines_of}
use Rattle.print_turn.specs.Turn.{farthest, end_behind, Because, Turns}
use Rattle.print_turn.specs.declared.Next.{Next}
use Rattle.print_turn.specs.declared.Next.TheVariants.{Again, Read, End, TooLong}
use Rattle.print_turn.specs.declared.Turned.{Turned}
use Rattle.promises.specs.Entries.{TurnOfARun}

-- Where a run is not over, nothing stands behind its lines.
no_end : (next : Next) (base : ℕ) (s : State) (held : List ℕ) → (next ≡ End → ⊥) → end_behind next base s held ≡ []
no_end Again base s held go = refl
no_end Read base s held go = refl
no_end End base s held go = absurd (go refl)
no_end TooLong base s held go = refl

-- From `farthest` on the input is too long, and nothing else is next.
too_long_there : (next : Next) (base : ℕ) (done : Bool) (held : List ℕ) (r : Turned) → Because next base done held r → farthest ≤ base →
    (next ≡ TooLong) × (r.base ≡ base) × (r.used ≡ 0)
too_long_there Again base done held r why far = absurd (omega (arith, why.0))
too_long_there Read base done held r why far = absurd (omega (arith, why.0))
too_long_there End base done held r why far = absurd (omega (arith, why.0))
too_long_there TooLong base done held r why far = (refl, why.1, why.2)

pub turn_in_full : {s : State} {buffer : List ℕ} {held base : ℕ} {done : Bool} {room : ℕ} {state : State} {buffer' : List ℕ} {r : Turned}
    {page : List ℕ} → Turns s buffer held base done room state buffer' r page →
    TurnOfARun s (take held buffer) base done state (take r.held buffer') r page
turn_in_full {s} {base = base} {done} {state = state} {buffer'} {r} {page} t =
    let left = take r.held buffer' in
    record {
      runs =
          λ ok.
          let x = t.shows ok in (
            x.steps,
            x.at,
            x.answers,
            x.ran.came,
            x.further,
            x.rest,
            λ go. x.shown ∙ ap (λ (end : List ℕ). lines_of x.answers ++ end) (no_end r.next r.base state left go) ∙
                append-nil (lines_of x.answers),
            λ e. rw e at x.shown,
          );
      again = λ e. let why = rw e at t.because in (why.1, why.2);
      reads = λ e. let why = rw e at t.because in (why.1, why.2, why.3);
      ends = λ e. (rw e at t.because).1;
      too_long = λ e. (rw e at t.because).0;
      nothing_further = λ far. too_long_there r.next base done left r t.because far;
    }
