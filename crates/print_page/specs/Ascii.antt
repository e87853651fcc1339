-- Texts in ASCII, as definitions of what is said and worked examples give them. Assumes nothing.
use Rattle.std.specs.Prelude.{List, [] as []ᴸ, ◌∷◌ as ◌∷ᴸ◌, ◌++◌, ℕ}
use Prim.Native.Char.{code}
use Prim.Native.String.{String, [], ◌∷◌}
use Rattle.print_page.specs.Text.{newline}

-- a text as bytes
abbrev pub ascii : String → List ℕ
ascii [] = []ᴸ
ascii (c ∷ s) = code c ∷ᴸ ascii s

-- lines of text as bytes
abbrev pub ascii_lines : List String → List ℕ
ascii_lines []ᴸ = []ᴸ
ascii_lines (l ∷ᴸ ls) = ascii l ++ (newline ∷ᴸ ascii_lines ls)
