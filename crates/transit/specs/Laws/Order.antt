-- Place order: where the places of messages never fall, it is their order of sending.
-- Assumes nothing.
use Rattle.std.specs.Prelude.{◌≡◌, refl, true, not, List, [], ◌∷◌, map, ◌<◌, leb}
use Rattle.std.proofs.Common.{ap, arith, leb-true, ne_eqb}
use Rattle.base.specs.Lists.{select, every, never_falls}
use Rattle.transit.specs.Message.{place_number, place_index, at, picks, by_place, place_order}
use Rattle.transit.specs.declared.Message.{Message}
use Rattle.transit.specs.declared.Place.{Place}
use Rattle.transit.specs.declared.Place.TheVariants.{SourceList, SourceChannel, EndList, Channel}
use Rattle.transit.specs.declared.Selection.{Selection}
use Rattle.base.specs.Laws.Tests.{both_left, both_right}
use Rattle.base.specs.Laws.Lists.{select_none, every_wider, every_map}

-- There are four places.
pub place_below_four : (p : Place) → place_number p < 4
place_below_four SourceList = omega arith
place_below_four SourceChannel = omega arith
place_below_four EndList = omega arith
place_below_four Channel = omega arith

-- Messages whose places never fall are in place order already.
by_place_sorted : (l : List Message) → never_falls (map place_index l) ≡ true → by_place l ≡ l
by_place_sorted [] sorted = refl
by_place_sorted (m ∷ l) sorted =
    at_place m.place refl (by_place_sorted l (both_right (every (leb (place_index m)) (map place_index l)) _ sorted))
  where
    -- None of the others is at a place before that of the first.
    none : (q p : Place) → m.place ≡ p → place_number q < place_number p → select (at q) l ≡ []
    none q p is before =
        select_none (at q) l (every_wider (λ x. leb (place_index m) (place_index x)) (λ x. not (at q x))
        (λ x h.
        rw (ne_eqb (place_index x) (place_number q) (λ e. omega (
          arith,
          e,
          ap place_number is,
          leb-true (place_index m)
              (place_index x) h,
        )))) l
        (rw every_map at (both_left (every (leb (place_index m)) (map place_index l)) _ sorted)))

    at_place : (p : Place) → m.place ≡ p → by_place l ≡ l → by_place (m ∷ l) ≡ m ∷ l
    at_place SourceList is rest = rw (is, rest)
    at_place SourceChannel is rest = let a = none SourceList SourceChannel is (omega arith) in rw (is, a) (cc)
    at_place EndList is rest =
        let a = none SourceList EndList is (omega arith) in
        let b = none SourceChannel EndList is (omega arith) in rw (is, a, b) (cc)
    at_place Channel is rest =
        let a = none SourceList Channel is (omega arith) in
        let b = none SourceChannel Channel is (omega arith) in
        let c = none EndList Channel is (omega arith) in rw (is, a, b, c) (cc)

-- Where the places of the selected messages never fall, place order is the order of sending.
pub place_order_is_list_order : (s : Selection) (l : List Message) → never_falls (map place_index (select (picks s) l)) ≡ true
    → place_order s l ≡ select (picks s) l
place_order_is_list_order s l sorted = by_place_sorted (select (picks s) l) sorted
