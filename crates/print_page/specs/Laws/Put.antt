-- Laws of texts on a page: one text behind another, and what a page then shows. Assumes nothing.
use Rattle.std.specs.Prelude.{◌≡◌, refl, List, [], ◌∷◌, ◌++◌, ℕ, suc, ◌+◌, ◌≤◌, length, take, drop, set}
use Rattle.std.proofs.Common.{
  append_assoc,
  sym,
  ◌∙◌,
  take-append-drop,
  drop-drop,
  zero-add,
  add-one,
  arith,
  length-append,
  length-set,
  take_at,
  length-take-le,
}
use borrow.Rule.Slice.PartMut.{put_mid}
use Rattle.std.proofs.Math.Seq.{length-sets}
use Rattle.std.proofs.lemmas.List.Edits.{sets, sets-eq}
use Rattle.print_page.specs.Put.{Put, Writes}
use Rattle.print_page.specs.declared.Page.{Page}

-- One text behind another is both as one text.
sets_append : (l : List ℕ) (i : ℕ) (xs ys : List ℕ) → sets (sets l i xs) (i + length xs) ys ≡ sets l i (xs ++ ys)
sets_append l i [] ys = let same : i + 0 ≡ i = omega arith in rw same
sets_append l i (x ∷ xs) ys =
    let same : i + suc (length xs) ≡ suc i + length xs = omega arith in
    rw same (sets_append (set l i x) (suc i) xs ys)

module _ {page : List ℕ} {used : ℕ} where
  infixl 20 ◌then◌
  -- Two texts in a row are put as one.
  pub ◌then◌ : {m n : ℕ} {s t next after : List ℕ} {mid end : ℕ} → Put m page used s next mid → Put n next mid t after end →
      Put (m + n) page used (s ++ t) after end
  ◌then◌ {s = s} {t = t} p q =
      record {
        holds = rw (q.holds, p.holds, p.ends) (sets_append page used s t);
        ends = rw (q.ends, p.ends, length-append) (omega arith);
        within = omega arith;
        room = q.room ∙ p.room;
      }

  -- No text leaves the page as it was.
  pub nothing : Put 0 page used [] page used
  nothing = record { holds = refl; ends = omega arith; within = omega arith; room = refl }

  -- Two bytes, one stored behind the other, are a text of two.
  pub two_bytes : {a b x y : ℕ} → a ≡ x → b ≡ y → Put 2 page used (x ∷ y ∷ []) (set (set page used a) (used + 1) b) (used + 2)
  two_bytes e f = record { holds = rw (e, f, add-one); ends = refl; within = omega arith; room = rw (length-set, length-set) }

  -- A text that is copied behind what is used is put.
  pub copied : (text : List ℕ) {k : ℕ} → k ≡ length text → used + length text ≤ length page →
      Put (length text) page used text (put_mid used k page text) (used + length text)
  copied text e h =
      let same : put_mid used (length text) page text ≡ sets page used text =
      rw (drop-drop, sets-eq text page used h, append_assoc (take used page)) in
      rw (e, same) record { holds = refl; ends = refl; within = omega arith; room = length-sets page used text }

  -- A text that stands behind what was used, with the page's rest behind it, is put.
  pub stands_behind : (text : List ℕ) {after : List ℕ} → used + length text ≤ length page → take used after ≡ take used page →
      drop used after ≡ text ++ drop (used + length text) page → Put (length text) page used text after (used + length text)
  stands_behind text {after} h front behind =
      let same : after ≡ sets page used text =
      sym (take-append-drop used after) ∙ rw (front, behind, sets-eq text page used h, append_assoc (take used page)) in
      rw same record { holds = refl; ends = refl; within = omega arith; room = length-sets page used text }

  module _ {m : ℕ} {text after : List ℕ} {end : ℕ} (p : Put m page used text after end) where
    -- A bound may be any that is no less.
    pub at_most : {n : ℕ} → m ≤ n → Put n page used text after end
    at_most h = record { holds = p.holds; ends = p.ends; within = omega arith; room = p.room }

    -- The text may be said otherwise.
    pub as_text : {t : List ℕ} → text ≡ t → Put m page used t after end
    as_text e = rw (← e) p

    -- What is used of the page is what was used before, and the text.
    pub shows : used + m ≤ length page → take end after ≡ take used page ++ text
    shows h =
        let long = used + length text in
        let front : length (take used page ++ text) ≡ long = rw (length-append, length-take-le used page (omega arith)) in
        rw (p.holds, p.ends, sets-eq text page used (omega arith)) (take_at (take used page ++ text) (drop long page) long front)

-- What is put at the front of a page is a text and then the page from there on.
pub at_front : {most : ℕ} {page text after : List ℕ} {end : ℕ} → Put most page 0 text after end → most ≤ length page
    → (end ≡ length text) × (after ≡ text ++ drop (length text) page)
at_front {page = page} {text = text} p room =
    let long : length text ≤ length page = omega arith in
    (p.ends ∙ zero-add (length text), p.holds ∙ sets-eq text page 0 (omega arith) ∙ rw zero-add)

module _ {page : Page} where
  infixl 20 ◌and◌
  -- Two texts in a row are put as one.
  pub ◌and◌ :
      {m n : ℕ} {s t : List ℕ} {next after : Page} →
      Writes m page s next → Writes n next t after → Writes (m + n) page (s ++ t) after
  ◌and◌ p q = record { same = q.same ∙ p.same; put = p.put then q.put }

  -- The text may be said otherwise, and a bound may be any that is no less.
  pub reads : {m n : ℕ} {text t : List ℕ} {after : Page} → Writes m page text after → text ≡ t → m ≤ n → Writes n page t after
  reads p e h = record { same = p.same; put = at_most (as_text p.put e) h }

  -- No text leaves the page as it was.
  pub untouched : {m : ℕ} → Writes m page [] page
  untouched = record { same = refl; put = at_most nothing (omega arith) }
