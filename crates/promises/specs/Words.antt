-- Records and runs in words, for the page of promises. Paper 01, "The step log". Assumes nothing.
use Rattle.std.specs.Prelude.{List, [], ◌∷◌, ℕ}
use Prim.Native.String.{String}
use Rattle.record.specs.Record.{bytes_of}

-- a log, and the lines that its run from the fresh state prints
pub record Run : Type 0 where
  pub log : List ℕ
  pub lines : List String

infix 70 ◌prints◌
abbrev pub ◌prints◌ : List ℕ → List String → Run
log prints lines = record { log = log; lines = lines }

abbrev pub start : ℕ → ℕ → List ℕ
start r h = 0x01 ∷ r ∷ h ∷ []

abbrev pub call : ℕ → ℕ → List ℕ
call a b = 0x02 ∷ a ∷ b ∷ []

abbrev pub route : ℕ → ℕ → List ℕ
route a b = 0x03 ∷ a ∷ b ∷ []

abbrev pub send : ℕ → ℕ → ℕ → List ℕ
send a b value = 0x04 ∷ a ∷ b ∷ bytes_of value

abbrev pub take : ℕ → ℕ → List ℕ
take b a = 0x05 ∷ b ∷ a ∷ []

abbrev pub move : ℕ → ℕ → List ℕ
move r h = 0x06 ∷ r ∷ h ∷ []

abbrev pub heed : ℕ → ℕ → List ℕ
heed b r = 0x07 ∷ b ∷ r ∷ []

abbrev pub drain : ℕ → ℕ → List ℕ
drain r s = 0x08 ∷ r ∷ s ∷ []

abbrev pub land : ℕ → List ℕ
land r = 0x09 ∷ r ∷ []

abbrev pub part : ℕ → ℕ → List ℕ
part a b = 0x0A ∷ a ∷ b ∷ []

abbrev pub end : ℕ → List ℕ
end r = 0x0B ∷ r ∷ []

abbrev pub look : ℕ → List ℕ
look r = 0x0C ∷ r ∷ []
