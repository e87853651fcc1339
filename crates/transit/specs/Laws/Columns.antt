-- The columns after a store, and what a read of one is: one law for parts of any lengths, and a name for each column.
-- Assumes nothing.
use Rattle.std.specs.Prelude.{List, [], ◌∷◌, ◌≡◌, refl, ℕ, zero, suc, ◌+◌, ◌-◌, ◌<◌, ◌≤◌, length, get_or, set, drop}
use Rattle.std.proofs.Common.{
  ◌∙◌,
  arith,
  length-drop,
  drop-set-lt,
  get_or-take,
  get_or-drop,
  get_or-set_same,
  get_or-set_other,
  length-take-le,
}
use Rattle.std.proofs.lemmas.List.{take-set-le, drop-set-add}
use Rattle.std.proofs.Math.Seq.{take-set-lt}
use Rattle.transit.specs.Columns.{
  parts,
  offset,
  sizes,
  named,
  columns_of,
  with_pairs,
  with_places,
  with_next,
  with_first,
  with_last,
  with_count,
  with_tail,
  with_unread,
  PLACES,
  NEXT,
  FIRST,
  LAST,
  COUNT,
  TAIL,
  UNREAD,
  SLOTS,
  slots_length,
}
use Rattle.transit.specs.Index.{Sizes}
use Rattle.transit.specs.Message.{cells}

-- how long all parts are
abbrev sum : List ℕ → ℕ
sum [] = 0
sum (n ∷ ns) = n + sum ns

-- A store in a part is a store in that part, and in no other.
parts_set : (ns l : List ℕ) (k i v : ℕ) → i < get_or ns k 0
    → parts ns (set l (offset ns k + i) v) ≡ set (parts ns l) k (set (get_or (parts ns l) k []) i v)
parts_set [] l k i v inside = absurd (omega arith)
parts_set (n ∷ ns) l zero i v inside =
    let z : 0 + i ≡ i = omega arith in
    rw (z, take-set-lt n l i v inside, drop-set-lt n l i v inside)
parts_set (n ∷ ns) l (suc k) i v inside =
    let z : n + offset ns k + i ≡ n + (offset ns k + i) = omega arith in
    let before = take-set-le n l (n + (offset ns k + i)) v (omega arith) in
    rw (z, before, drop-set-add n l (offset ns k + i) v, parts_set ns (drop n l) k i v inside)

-- A store behind all parts is in none.
parts_past : (ns l : List ℕ) (i v : ℕ) → sum ns ≤ i → parts ns (set l i v) ≡ parts ns l
parts_past [] l i v behind = refl
parts_past (n ∷ ns) l i v behind =
    let e : n + (i - n) ≡ i = omega arith in
    rw (take-set-le n l i v (omega arith), rw e at (drop-set-add n l (i - n) v), parts_past ns (drop n l) (i - n) v (omega arith))

-- A read of a part is a read of the list.
parts_at : (ns l : List ℕ) (k i : ℕ) → i < get_or ns k 0 → get_or (get_or (parts ns l) k []) i 0 ≡ get_or l (offset ns k + i) 0
parts_at [] l k i inside = absurd (omega arith)
parts_at (n ∷ ns) l zero i inside = let z : 0 + i ≡ i = omega arith in rw z (get_or-take n l i 0 inside)
parts_at (n ∷ ns) l (suc k) i inside =
    let z : n + offset ns k + i ≡ n + (offset ns k + i) = omega arith in
    rw z (parts_at ns (drop n l) k i inside ∙ get_or-drop n l (offset ns k + i) 0)

-- A part of a list that is long enough has its length.
parts_long : (ns l : List ℕ) (k : ℕ) → k < length ns → offset ns k + get_or ns k 0 ≤ length l
    → length (get_or (parts ns l) k []) ≡ get_or ns k 0
parts_long [] l k inside long = absurd (omega arith)
parts_long (n ∷ ns) l zero inside long = length-take-le n l (omega arith)
parts_long (n ∷ ns) l (suc k) inside long = parts_long ns (drop n l) k (omega arith) (omega (arith, length-drop n l))

-- The columns by name.
columns_are : (s : List ℕ) → columns_of s ≡ named (parts sizes s) (get_or s TAIL 0) (get_or s UNREAD 0)
unfolding columns_of
columns_are s = refl

-- The same parts have the same names.
named_by : {l l' : List (List ℕ)} {t t' n n' : ℕ} → l ≡ l' → t ≡ t' → n ≡ n' → named l t n ≡ named l' t' n'
named_by p q r = rw (p, q, r)

-- The columns of an array of the right length have theirs.
pub column_sizes : (s : List ℕ) → length s ≡ slots_length → Sizes (columns_of s)
column_sizes s long = rw columns_are (record {
  pairs_long = parts_long sizes s 0 (omega arith) (omega arith);
  places_long = parts_long sizes s 1 (omega arith) (omega arith);
  next_long = parts_long sizes s 2 (omega arith) (omega arith);
  first_long = parts_long sizes s 3 (omega arith) (omega arith);
  last_long = parts_long sizes s 4 (omega arith) (omega arith);
  count_long = parts_long sizes s 5 (omega arith) (omega arith);
})

-- A store in a column of slots or of pairs changes that column alone.
module _ (s : List ℕ) (i v : ℕ) where
  store_in : (k : ℕ) → i < get_or sizes k 0 → offset sizes k + i < TAIL
      → columns_of (set s (offset sizes k + i) v)
      ≡ named (set (parts sizes s) k (set (get_or (parts sizes s) k []) i v)) (get_or s TAIL 0) (get_or s UNREAD 0)
  store_in k inside before =
      columns_are (set s (offset sizes k + i) v) ∙ named_by (parts_set sizes s k i v inside)
      (get_or-set_other s (offset sizes k + i) TAIL v 0 (λ e. omega (arith, e)))
      (get_or-set_other s (offset sizes k + i) UNREAD v 0 (λ e. omega (arith, e)))

  pub store_pair : i < SLOTS → columns_of (set s i v) ≡ with_pairs (columns_of s) (set (columns_of s).pairs i v)
  store_pair inside = let z : 0 + i ≡ i = omega arith in rw (columns_are s) (rw z at (store_in 0 inside (omega arith)))

  pub store_place : i < SLOTS → columns_of (set s (PLACES + i) v) ≡ with_places (columns_of s) (set (columns_of s).places i v)
  store_place inside = rw (columns_are s) (store_in 1 inside (omega arith))

  pub store_next : i < SLOTS → columns_of (set s (NEXT + i) v) ≡ with_next (columns_of s) (set (columns_of s).next i v)
  store_next inside = rw (columns_are s) (store_in 2 inside (omega arith))

  pub store_first : i < cells → columns_of (set s (FIRST + i) v) ≡ with_first (columns_of s) (set (columns_of s).first i v)
  store_first inside = rw (columns_are s) (store_in 3 inside (omega arith))

  pub store_last : i < cells → columns_of (set s (LAST + i) v) ≡ with_last (columns_of s) (set (columns_of s).last i v)
  store_last inside = rw (columns_are s) (store_in 4 inside (omega arith))

  pub store_count : i < cells → columns_of (set s (COUNT + i) v) ≡ with_count (columns_of s) (set (columns_of s).count i v)
  store_count inside = rw (columns_are s) (store_in 5 inside (omega arith))

-- A store of the tail, or of the number of unread, changes that alone.
module _ (s : List ℕ) (v : ℕ) (long : length s ≡ slots_length) where
  pub store_tail : columns_of (set s TAIL v) ≡ with_tail (columns_of s) v
  store_tail =
      rw (columns_are s) (columns_are (set s TAIL v) ∙ named_by (parts_past sizes s TAIL v (omega arith))
      (get_or-set_same s TAIL v 0 (omega arith)) (get_or-set_other s TAIL UNREAD v 0 (omega arith)))

  pub store_unread : columns_of (set s UNREAD v) ≡ with_unread (columns_of s) v
  store_unread =
      rw (columns_are s) (columns_are (set s UNREAD v) ∙ named_by (parts_past sizes s UNREAD v (omega arith))
      (get_or-set_other s UNREAD TAIL v 0 (omega arith)) (get_or-set_same s UNREAD v 0 (omega arith)))

-- A read of each column is a read of the array.
module _ (s : List ℕ) where
  pub pair_at : (i : ℕ) → i < SLOTS → get_or (columns_of s).pairs i 0 ≡ get_or s i 0
  pair_at i inside = let z : 0 + i ≡ i = omega arith in rw columns_are (rw z at (parts_at sizes s 0 i inside))

  pub place_at : (i : ℕ) → i < SLOTS → get_or (columns_of s).places i 0 ≡ get_or s (PLACES + i) 0
  place_at i inside = rw columns_are (parts_at sizes s 1 i inside)

  pub next_at : (i : ℕ) → i < SLOTS → get_or (columns_of s).next i 0 ≡ get_or s (NEXT + i) 0
  next_at i inside = rw columns_are (parts_at sizes s 2 i inside)

  pub first_at : (i : ℕ) → i < cells → get_or (columns_of s).first i 0 ≡ get_or s (FIRST + i) 0
  first_at i inside = rw columns_are (parts_at sizes s 3 i inside)

  pub last_at : (i : ℕ) → i < cells → get_or (columns_of s).last i 0 ≡ get_or s (LAST + i) 0
  last_at i inside = rw columns_are (parts_at sizes s 4 i inside)

  pub count_at : (i : ℕ) → i < cells → get_or (columns_of s).count i 0 ≡ get_or s (COUNT + i) 0
  count_at i inside = rw columns_are (parts_at sizes s 5 i inside)

  pub tail_is : (columns_of s).tail ≡ get_or s TAIL 0
  tail_is = rw columns_are

  pub unread_is : (columns_of s).unread ≡ get_or s UNREAD 0
  unread_is = rw columns_are
