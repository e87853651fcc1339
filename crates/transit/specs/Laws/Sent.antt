-- The counts sent behind the contents of the slots: a read and a store of them, and that the messages do not see them.
-- Assumes nothing.
use Rattle.std.specs.Prelude.{List, [], ◌++◌, ◌≡◌, ℕ, ◌+◌, ◌<◌, ◌≤◌, length, get_or, set, take, drop}
use Rattle.std.proofs.Common.{sym, ap, ◌∙◌, add-one, arith, length-append, length-set, take-suc, take-suc-set, take_all, get_or-take}
use Rattle.std.proofs.Math.ListN.{length-drop}
use Rattle.std.proofs.Math.Seq.{drop-set-lt, drop-set-add, get_or-drop}
use Rattle.std.proofs.lemmas.List.{append-nil, drop_all, drop_at, length-take-le, take-set-le}
use Rattle.transit.specs.Columns.{columns_of, sent_in, SENT, SEQUENCES, SLOTS, contents_length}
use Rattle.transit.specs.Mail.{messages_in, IsMail, Roomy, Put, Appended}
use Rattle.transit.specs.Message.{message, cells, pair_of}
use Rattle.transit.specs.Sent.{Counted, Kept}
use Rattle.transit.specs.Slots.{message_at}
use Rattle.transit.specs.Unread.{sent_at, one_message_more}
use Rattle.transit.specs.declared.Place.{Place}
use Rattle.transit.specs.declared.Rank.{Rank}
use Rattle.transit.specs.Laws.Columns.{column_sizes}
use Rattle.transit.specs.Laws.Held.{held_same}

module _ (v : List ℕ) where
  -- A count that is read is a read of the contents.
  pub sent_at_lem : (p : ℕ) → get_or (sent_in v) p 0 ≡ get_or v (SENT + p) 0
  unfolding sent_in
  sent_at_lem p = get_or-drop SENT v p 0

  -- A store before the counts leaves them.
  pub sent_before : (i x : ℕ) → i < SENT → sent_in (set v i x) ≡ sent_in v
  unfolding sent_in
  sent_before i x h = drop-set-lt SENT v i x h

  -- A store of a count is a store of that count.
  pub sent_set : (p x : ℕ) → sent_in (set v (SENT + p) x) ≡ set (sent_in v) p x
  unfolding sent_in
  sent_set p x = drop-set-add SENT v p x

  -- There is a count for each pair.
  pub sent_long : length v ≡ contents_length → length (sent_in v) ≡ cells
  unfolding sent_in
  sent_long long = omega (arith, length-drop SENT v)

  -- A store of a count leaves what is before the counts.
  store_after : (p x : ℕ) → take SENT (set v (SENT + p) x) ≡ take SENT v
  store_after p x = take-set-le SENT v (SENT + p) x (omega arith)

  -- A pair has sent one more.
  pub counts_one : (a b : Rank) → length v ≡ contents_length
      → Counted a b v (get_or v (SENT + pair_of a b) 0 + 1) (set v (SENT + pair_of a b) (get_or v (SENT + pair_of a b) 0 + 1))
  counts_one a b long =
      let p = pair_of a b in
      record {
        long = length-set v (SENT + p) (get_or v (SENT + p) 0 + 1) ∙ long;
        before = store_after p (get_or v (SENT + p) 0 + 1);
        counts = rw (sent_set p (get_or v (SENT + p) 0 + 1), sent_at_lem p);
        now = rw (sent_at_lem p);
      }

-- One number more is copied.
pub copy_next : (l m : List ℕ) (p : ℕ) → p < length l → p < length m → take p l ≡ take p m
    → take (p + 1) (set l p (get_or m p 0)) ≡ take (p + 1) m
copy_next l m p in_l in_m same = rw (add-one, take-suc-set l p (get_or m p 0) in_l, take-suc m p 0 in_m, same)

-- The counts before p stand in the contents.
pub record Keeping (counts contents : List ℕ) (p : ℕ) : Type 0 where
  pub long : length contents ≡ contents_length
  pub same : take p (sent_in contents) ≡ take p counts

-- One count more does.
pub keep_next : {counts v : List ℕ} {p : ℕ} → Keeping counts v p → length counts ≡ cells → p < cells
    → Keeping counts (set v (SENT + p) (get_or counts p 0)) (p + 1)
keep_next {counts} {v} {p} k size h = record {
  long = length-set v (SENT + p) (get_or counts p 0) ∙ k.long;
  same =
      rw (sent_set v p (get_or counts p 0))
      (copy_next (sent_in v) counts p (omega (arith, sent_long v k.long)) (omega arith) k.same);
}

-- All counts do.
pub keep_all : {counts v : List ℕ} {p : ℕ} → Keeping counts v p → length counts ≡ cells → cells ≤ p → Kept counts v
keep_all {counts} {v} {p} k size past = record {
  long = k.long;
  same = sym (take_all p (sent_in v) (omega (arith, sent_long v k.long))) ∙ k.same ∙ take_all p counts (omega arith);
}

-- Counts written behind the messages are the counts.
pub kept_counts : (v l : List ℕ) → length v ≡ contents_length → length l ≡ cells → Kept l (take SENT v ++ (l ++ drop cells (drop SENT v)))
unfolding sent_in
kept_counts v l long size =
    let before : length (take SENT v) ≡ SENT = length-take-le SENT v (omega (arith, long)) in
    let behind : drop cells (drop SENT v) ≡ [] = drop_all cells (drop SENT v) (omega (arith, length-drop SENT v, long)) in
    rw (behind, append-nil l)
    record { long = omega (arith, length-append (take SENT v) l, before, size); same = drop_at (take SENT v) l SENT before }

-- The counts are all that is behind the messages.
pub counts_read : (v : List ℕ) → length v ≡ contents_length → take cells (drop SENT v) ≡ sent_in v
unfolding sent_in
counts_read v long = take_all cells (drop SENT v) (omega (arith, length-drop SENT v, long))

-- The messages are the same where the contents before the counts are.
pub messages_before : (s v v' : List ℕ) → length (columns_of s).pairs ≡ SLOTS → take SENT v' ≡ take SENT v
    → messages_in s v' ≡ messages_in s v
unfolding messages_in
messages_before s v v' long same =
    let c = columns_of s in
    let read : (k : ℕ) → k < SENT → get_or v' k 0 ≡ get_or v k 0 =
    λ k h. sym (get_or-take SENT v' k 0 h) ∙ ap (λ (l : List ℕ). get_or l k 0) same ∙ get_or-take SENT v k 0 h in
    held_same (message_at c.places v) (message_at c.places v') 0 c.pairs
    (λ k x _ h. rw (read k (omega arith), read (SEQUENCES + k) (omega arith)))

-- And so the arrays hold what they must.
pub mail_before : {s v : List ℕ} (v' : List ℕ) → IsMail s v → length v' ≡ contents_length → take SENT v' ≡ take SENT v → IsMail s v'
mail_before {s} {v} v' d long same =
    let messages = messages_before s v v' (column_sizes s d.slots_long).pairs_long same in
    record {
      slots_long = d.slots_long;
      contents_long = long;
      index = d.index;
      placed = d.placed;
      within = d.within;
      stored = rw messages d.stored;
      few = rw messages d.few;
    }

module _ {a b : Rank} {s v s' v' v'' : List ℕ} {k : ℕ} (r : Roomy s v s' v') (c : Counted a b v' k v'') where
  -- Where room is made and the pair is counted, the messages are as they were,
  pub counted_same : messages_in s' v'' ≡ messages_in s v
  counted_same = messages_before s' v' v'' (column_sizes s' r.kept.slots_long).pairs_long c.before ∙ r.same

  -- and the arrays hold what they must.
  pub counted_kept : IsMail s' v''
  counted_kept = mail_before v'' r.kept c.long c.before

  -- Put with the number counted, a message is behind all others with the next number of its pair.
  pub numbered_put : {p : Place} {x n : ℕ} {s3 v3 : List ℕ}
      → Put (message a b p x k) s' v'' n s3 v3
      → Appended a b p x s v n s3 v3
  numbered_put {p} {x} {n} {s3} {v3} put =
      let number : k ≡ sent_at a b (sent_in v) + 1 = c.now ∙ ap (λ (l : List ℕ). sent_at a b l + 1) r.counts in
      record {
        kept = put.kept;
        same = put.same ∙ rw (counted_same, number);
        pair = put.pair;
        counts = put.counts ∙ c.counts ∙ ap (one_message_more a b) r.counts;
      }
