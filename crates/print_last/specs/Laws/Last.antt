-- Laws of the last lines as they are put on a page, pair after pair. Assumes nothing.
use Rattle.std.specs.Prelude.{List, ◌++◌, refl, ℕ, ◌+◌, ◌≤◌}
use Rattle.transit.specs.declared.Message.{Message}
use Rattle.print_page.specs.Laws.Put.{reads, ◌and◌}
use Rattle.print_page.specs.Put.{Writes}
use Rattle.print_page.specs.declared.Page.{Page}
use Rattle.print_last.specs.Last.{PutOf}

module _ {page : Page} {slots : List ℕ} where
  -- Two texts in a row are put as one.
  pub and_then : {m n : ℕ} {f g : List Message → List ℕ} {next after : Page} → PutOf m page slots f next → PutOf n next slots g after →
      PutOf (m + n) page slots (λ l. f l ++ g l) after
  and_then p q =
      record {
        text = p.text ++ q.text;
        put = p.put and q.put;
        same = λ contents held. rw (p.same contents held, q.same contents held);
      }

  -- A text that is the same whatever the messages are.
  pub said_of_any : {m : ℕ} {text : List ℕ} {after : Page} → Writes m page text after → PutOf m page slots (λ l. text) after
  said_of_any {text = text} p = record { text = text; put = p; same = λ contents held. refl }

  -- A bound may be any that is no less.
  pub said_in : {m n : ℕ} {f : List Message → List ℕ} {after : Page} → m ≤ n → PutOf m page slots f after → PutOf n page slots f after
  said_in h p = record { text = p.text; put = reads p.put refl h; same = p.same }
