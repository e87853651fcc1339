-- Laws of a turn: what stands at the front of the buffer behind a piece, and what the page shows, by what is next. Assumes nothing.
use Rattle.std.specs.Prelude.{Bool, true, false, List, [], ◌++◌, ◌≡◌, refl, ℕ, ◌+◌, ◌≤◌, ◌<◌, ltb, length, take, drop, get_or, Ok, Err}
use Rattle.std.proofs.Common.{append_assoc, append-nil, ap, sym, ◌∙◌, add-zero, arith, ltb-true, length-take-le}
use Rattle.base.specs.Laws.Below.{all_below_at}
use Rattle.print_page.specs.Laws.Put.{shows}
use Rattle.print_page.specs.Put.{Put}
use Rattle.record.specs.Laws.Record.{kind_most}
use Rattle.record.specs.Record.{is_kind, bodies, body_length, decode, Decoded}
use Rattle.broker.specs.State.{State}
use Rattle.record.specs.declared.Fault.TheVariants.{Unknown, Cut}
use Rattle.print_buffer.specs.Buffer.{Kept}
use Rattle.print_last.specs.Last.{ending_room}
use Rattle.print_run.proofs.Laws.Pieces.{piece_first, left_over, unknown_ends}
use Rattle.print_run.specs.Laws.Text.{text_behind}
use Rattle.print_run.specs.Laws.Window.{Seen, seen, moved, decode_dropped}
use Rattle.print_run.specs.Laws.Window.Seen.{seen_cut, seen_end}
use Rattle.print_run.specs.Printed.{lines_of, last_lines, text_of}
use Rattle.print_piece.specs.Ran.{Ran, RanSome, Stops}
use Rattle.print_run.specs.Run.{Answered}
use Rattle.print_turn.specs.Turn.{farthest, longest, next_of, MayFollow, end_behind, Shows, Over, Because, Turns}
use Rattle.print_run.specs.Wholes.{is_whole, closing, left}
use Rattle.print_piece.specs.declared.Stop.{Stop}
use Rattle.print_piece.specs.declared.Stop.TheVariants.{PageFull, KindUnknown, RecordCut}
use Rattle.print_turn.specs.declared.Next.{Next}
use Rattle.print_turn.specs.declared.Next.TheVariants.{Again, Read, End, TooLong}
use Rattle.print_turn.specs.declared.Turned.{Turned}

-- No kind's body is as long as the longest record.
body_short : (k : ℕ) → is_kind k ≡ true → body_length k < longest
body_short k h =
    ltb-true (body_length k) longest
    (all_below_at (length bodies) (λ k. ltb (body_length k) longest) refl k (omega (arith, kind_most k h)))

-- A record that is cut is shorter than the longest one.
cut_is_short : (log : List ℕ) → decode log 0 ≡ Err Cut → length log < longest
cut_is_short log e = by (seen log 0 e)
  where
    by : Seen log 0 (Err Cut) → length log < longest
    by (seen_cut inside kind short) = omega (arith, body_short (get_or log 0 0) kind)
    by (seen_end past) = omega arith

-- What is no whole record is the same so many bytes further on.
unmoved : (k : ℕ) (d : Decoded) {e : Decoded} → moved k d ≡ e → is_whole e ≡ false → d ≡ e
unmoved k (Ok (r, next)) same none = cc (ap is_whole same)
unmoved k (Err Unknown) same none = same
unmoved k (Err Cut) same none = same

-- What was left to print, whatever follows a piece, is the lines of its answers and what is left then.
piece_shows :
    {s : State} {piece : List ℕ} {base steps : ℕ} {state : State} {at : ℕ} {answers : List Answered} →
    Ran s piece base steps state at answers →
    (more : List ℕ) → left base s (piece ++ more) ≡ lines_of answers ++ left (base + at) state (drop at piece ++ more)
piece_shows {s} {piece} {base} {steps} ran more =
    ap text_of (rw (← ran.came) at (piece_first base steps s piece more)) ∙ rw text_behind

-- Behind a piece whose rest goes to the buffer's front, on a page that has room for the end of a run.
module _
    {s : State} {buffer : List ℕ} {held base room : ℕ} {state : State} {at used steps : ℕ} {page buffer' : List ℕ} {k : ℕ}
    (ran : RanSome s (take held buffer) base room state at used steps page) (rest : Kept buffer at held buffer' k)
    (fits : held ≤ length buffer) (roomy : ending_room ≤ room) (near : base < farthest)
  where
    -- What stands behind the piece stands at the buffer's front, where it is no whole record.
    in_front : {d : Decoded} → decode (take held buffer) at ≡ d → is_whole d ≡ false → decode (take k buffer') 0 ≡ d
    in_front e none =
        let there = rw (add-zero at) at (decode_dropped (take held buffer) at ran.inside 0) in
        rw rest.holds (unmoved at (decode (drop at (take held buffer)) 0) (sym there ∙ e) none)

    -- Whatever is next, the state is that of the records that were run, and nothing that was held is lost or moved.
    turns :
        (next : Next) (done : Bool) (end : ℕ) (page' : List ℕ) →
        let r : Turned = record { held = k; base = base + at; used = end; next = next } in
        take end page' ≡ lines_of ran.answers ++ end_behind next (base + at) state (take k buffer') →
        Because next base done (take k buffer') r → end ≤ length page' → length page' ≡ room →
        Turns s buffer held base done room state buffer' r page'
    turns next done end page' shown because within long =
        let inside = length-take-le held buffer fits in
        record {
          shows = λ ok.
              record {
                steps = steps;
                at = at;
                answers = ran.answers;
                ran = ran.ran ok;
                further = refl;
                rest = rest.holds;
                shown = shown;
              };
          because = because;
          exact = omega (arith, rest.counts, ran.inside);
          holds = omega (arith, rest.counts);
          fits = within;
          keeps = (rest.room, long);
        }

    -- The page is full, or has no room for the end of the run.
    pub turn_again : (done : Bool) → room < used + ending_room →
        Turns s buffer held base done room state buffer' (record { held = k; base = base + at; used = used; next = Again }) page
    turn_again done h =
        turns Again done used page (rw (ran.shown, append-nil)) (near, omega arith, omega (arith, ran.taken)) ran.fits ran.keeps

    -- By why the run of the piece stops, where the run is not over.
    pub turn_on : (stop : Stop) (done : Bool) → Stops stop (take held buffer) at used room → (next_of stop done ≡ End → ⊥) →
        Turns s buffer held base done room state buffer' (record { held = k; base = base + at; used = used; next = next_of stop done }) page
    turn_on PageFull done h go = turn_again done (omega arith)
    turn_on KindUnknown done h go = absurd (go refl)
    turn_on RecordCut true h go = absurd (go refl)
    turn_on RecordCut false h go =
        let cut = in_front h refl in
        let long = length-take-le k buffer' (omega (arith, rest.counts, rest.room)) in
        turns Read false used page (rw (ran.shown, append-nil))
        (near, refl, cut, omega (arith, cut_is_short (take k buffer') cut))
        ran.fits ran.keeps

    -- The end of the run is put behind what the page shows.
    module _
        {text page' : List ℕ} {end : ℕ} (put : Put ending_room page used text page' end) (behind : used + ending_room ≤ length page)
        (says : text ≡ lines_of (closing (base + at) (take k buffer') 0) ++ last_lines state)
      where
        over : (done : Bool) → Over done (decode (take k buffer') 0) →
            Turns s buffer held base done room state buffer' (record { held = k; base = base + at; used = end; next = End }) page'
        over done why =
            turns End done end page' (rw (shows put behind, ran.shown, says)) (near, why) (omega (arith, put.within, put.room))
            (put.room ∙ ran.keeps)

        pub turn_ends : (stop : Stop) (done : Bool) → Stops stop (take held buffer) at used room → next_of stop done ≡ End →
            Turns s buffer held base done room state buffer' (record { held = k; base = base + at; used = end; next = End }) page'
        turn_ends PageFull done h e = let z : ◌≡◌ {A = ℕ} 0 1 = cc in absurd (omega arith)
        turn_ends KindUnknown done h e = let unknown = in_front h refl in over done (ap is_whole unknown, λ _. unknown)
        turn_ends RecordCut true h e = over true (ap is_whole (in_front h refl), λ t. cc)
        turn_ends RecordCut false h e = let z : ◌≡◌ {A = ℕ} 0 1 = cc in absurd (omega arith)

-- what is left to print behind a turn, of a log that is left to run
abbrev pub left_behind : Next → ℕ → State → List ℕ → List ℕ
left_behind Again base s log = left base s log
left_behind Read base s log = left base s log
left_behind End base s log = []
left_behind TooLong base s log = left base s log

-- Where a run is over, nothing that may follow is a part of it.
nothing_follows : (base : ℕ) (s : State) (held : List ℕ) (done : Bool) → Over done (decode held 0) → (more : List ℕ) →
    MayFollow done more → left base s (held ++ more) ≡ lines_of (closing base held 0) ++ last_lines s
nothing_follows base s held true over more may = rw (may refl, append-nil) (left_over base s held over.0)
nothing_follows base s held false over more may =
    unknown_ends base s held more (over.1 refl) ∙ left_over base s held over.0

-- What was left to print, whatever follows, is what the page shows and then what is left behind the turn.
module _ {s : State} {held : List ℕ} {base : ℕ} {state : State} {held' : List ℕ} {r : Turned} {page : List ℕ} {done : Bool}
    (x : Shows s held base state held' r page) (over : r.next ≡ End → Over done (decode held' 0)) (more : List ℕ)
    (may : MayFollow done more) where
  behind : (next : Next) → r.next ≡ next →
      left r.base state (held' ++ more) ≡
      end_behind next r.base state held' ++ left_behind next r.base state (held' ++ more)
  behind Again e = refl
  behind Read e = refl
  behind End e = rw append-nil (nothing_follows r.base state held' done (over e) more may)
  behind TooLong e = refl

  pub shows_prints : left base s (held ++ more) ≡ take r.used page ++ left_behind r.next r.base state (held' ++ more)
  shows_prints =
      piece_shows x.ran more ∙
      rw (← x.further, ← x.rest, x.shown, append_assoc (lines_of x.answers))
      (ap (λ l. lines_of x.answers ++ l) (behind r.next refl))
