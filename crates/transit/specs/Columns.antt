-- The columns of the slots and the contents: what each number of the lent arrays is.
-- Assumes nothing.
use Rattle.std.specs.Prelude.{List, [], ◌∷◌, ℕ, zero, suc, ◌+◌, get_or, take, drop}
use Rattle.transit.specs.Message.{cells}

-- parts of given lengths, one behind the other
abbrev pub parts : List ℕ → List ℕ → List (List ℕ)
parts [] l = []
parts (n ∷ ns) l = take n l ∷ parts ns (drop n l)

-- where a part starts
abbrev pub offset : List ℕ → ℕ → ℕ
offset [] k = 0
offset (n ∷ ns) zero = 0
offset (n ∷ ns) (suc k) = n + offset ns k

-- how many slots there are; as a link, no slot
abbrev pub SLOTS : ℕ
SLOTS = 2048

-- the number of no pair: a dead slot has it
abbrev pub DEAD : ℕ
DEAD = 256

-- how long the array of the columns is
abbrev pub slots_length : ℕ
slots_length = 6914

-- Where the columns start, behind the pairs of the slots at 0, and where the tail and the number of unread stand.
abbrev pub PLACES : ℕ
PLACES = 2048

abbrev pub NEXT : ℕ
NEXT = 4096

abbrev pub FIRST : ℕ
FIRST = 6144

abbrev pub LAST : ℕ
LAST = 6400

abbrev pub COUNT : ℕ
COUNT = 6656

abbrev pub TAIL : ℕ
TAIL = 6912

abbrev pub UNREAD : ℕ
UNREAD = 6913

-- The array of the contents: the value of each slot's message, behind them its running number, and behind those how many messages each
-- pair has sent.
abbrev pub SEQUENCES : ℕ
SEQUENCES = 2048

abbrev pub SENT : ℕ
SENT = 4096

abbrev pub contents_length : ℕ
contents_length = 4352

-- how long the columns are: three of each slot, three of each pair
abbrev pub sizes : List ℕ
sizes = SLOTS ∷ SLOTS ∷ SLOTS ∷ cells ∷ cells ∷ cells ∷ []

-- of each slot its pair's number, its place's number and the next slot of its pair; of each pair its first slot, its last slot
-- and how many are unread; the slot behind all live ones, and how many are unread in all
pub record Columns : Type 0 where
  pub pairs : List ℕ
  pub places : List ℕ
  pub next : List ℕ
  pub first : List ℕ
  pub last : List ℕ
  pub count : List ℕ
  pub tail : ℕ
  pub unread : ℕ

-- the columns by name
abbrev pub named : List (List ℕ) → ℕ → ℕ → Columns
named l t n = record {
  pairs = get_or l 0 [];
  places = get_or l 1 [];
  next = get_or l 2 [];
  first = get_or l 3 [];
  last = get_or l 4 [];
  count = get_or l 5 [];
  tail = t;
  unread = n;
}

-- the columns of the lent array
unfoldable pub columns_of : List ℕ → Columns
columns_of s = named (parts sizes s) (get_or s TAIL 0) (get_or s UNREAD 0)

-- how many messages each pair has sent
unfoldable pub sent_in : List ℕ → List ℕ
sent_in contents = drop SENT contents

-- The columns with one of them changed.
module _ (c : Columns) where
  abbrev pub with_pairs : List ℕ → Columns
  with_pairs l = record {
    pairs = l;
    places = c.places;
    next = c.next;
    first = c.first;
    last = c.last;
    count = c.count;
    tail = c.tail;
    unread = c.unread;
  }

  abbrev pub with_places : List ℕ → Columns
  with_places l = record {
    pairs = c.pairs;
    places = l;
    next = c.next;
    first = c.first;
    last = c.last;
    count = c.count;
    tail = c.tail;
    unread = c.unread;
  }

  abbrev pub with_next : List ℕ → Columns
  with_next l = record {
    pairs = c.pairs;
    places = c.places;
    next = l;
    first = c.first;
    last = c.last;
    count = c.count;
    tail = c.tail;
    unread = c.unread;
  }

  abbrev pub with_first : List ℕ → Columns
  with_first l = record {
    pairs = c.pairs;
    places = c.places;
    next = c.next;
    first = l;
    last = c.last;
    count = c.count;
    tail = c.tail;
    unread = c.unread;
  }

  abbrev pub with_last : List ℕ → Columns
  with_last l = record {
    pairs = c.pairs;
    places = c.places;
    next = c.next;
    first = c.first;
    last = l;
    count = c.count;
    tail = c.tail;
    unread = c.unread;
  }

  abbrev pub with_count : List ℕ → Columns
  with_count l = record {
    pairs = c.pairs;
    places = c.places;
    next = c.next;
    first = c.first;
    last = c.last;
    count = l;
    tail = c.tail;
    unread = c.unread;
  }

  abbrev pub with_tail : ℕ → Columns
  with_tail t = record {
    pairs = c.pairs;
    places = c.places;
    next = c.next;
    first = c.first;
    last = c.last;
    count = c.count;
    tail = t;
    unread = c.unread;
  }

  abbrev pub with_unread : ℕ → Columns
  with_unread n = record {
    pairs = c.pairs;
    places = c.places;
    next = c.next;
    first = c.first;
    last = c.last;
    count = c.count;
    tail = c.tail;
    unread = n;
  }
