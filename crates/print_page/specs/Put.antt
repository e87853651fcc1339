-- What it is to put a text on a page. Assumes nothing.
use Rattle.std.specs.Prelude.{◌≡◌, List, ℕ, ◌+◌, ◌≤◌, length}
use Rattle.std.proofs.lemmas.List.Edits.{sets}
use Rattle.print_page.specs.declared.Page.{Page}

-- a text of at most so many bytes stands behind what was used of a page, which is else as it was, and is used now
pub record Put (most : ℕ) (page : List ℕ) (used : ℕ) (text after : List ℕ) (end : ℕ) : Type 0 where
  pub holds : after ≡ sets page used text
  pub ends : end ≡ used + length text
  pub within : end ≤ used + most
  pub room : length after ≡ length page

-- a lent page has room for so many bytes more
abbrev pub Room : ℕ → Page → Type 0
Room n page = page.used + n ≤ length page.bytes.now

-- a text is put on a lent page, which stays the one that was lent
pub record Writes (most : ℕ) (before : Page) (text : List ℕ) (after : Page) : Type 0 where
  pub same : after.bytes.ghost_name ≡ before.bytes.ghost_name
  pub put : Put most before.bytes.now before.used text after.bytes.now after.used
