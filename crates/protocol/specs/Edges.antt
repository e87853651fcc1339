-- "Edges to prove" of paper 01, cases A to J: one table of runs from the fresh state, with what each step must answer and what must
-- hold at the end. That each case of the table is true is `Laws/Edges`. Assumes nothing.
use Rattle.std.specs.Prelude.{◌≡◌, Bool, true, false, not, ◌&&◌, List, [], ◌∷◌, ◌++◌, ℕ, eqb, Result, Ok, Err}
use Rattle.answer.specs.Answer.{number}
use Rattle.answer.specs.declared.Values.{Values}
use Rattle.answer.specs.declared.Refusal.{Refusal}
use Rattle.record.specs.Kind
use Rattle.broker.specs.Names.{is_open_request, is_running, is_migrating, is_open, is_marked}
use Rattle.transit.specs.Message.{rank}
use Rattle.broker.specs.State.{State, fresh, status, request, connection, backlog}
use Rattle.protocol.specs.Step.{Outcome, step}

-- a record that is a whole log, and the test that its step's answer must pass
pub record Try : Type 0 where
  pub log : List ℕ
  pub fits : Result Values Refusal → Bool

abbrev pub accepts : List ℕ → Try
accepts log = record { log = log; fits = λ a. eqb (number a) 0 }

abbrev pub refuses : List ℕ → ℕ → Try
refuses log n = record { log = log; fits = λ a. eqb (number a) n }

-- accepted, with these values
abbrev pub gives : ℕ → ℕ → ℕ → Result Values Refusal → Bool
gives v1 v2 v3 (Ok w) = eqb w.0 v1 && eqb w.1 v2 && eqb w.2 v3
gives v1 v2 v3 (Err n) = false

abbrev pub answers : List ℕ → ℕ → ℕ → ℕ → Try
answers log v1 v2 v3 = record { log = log; fits = gives v1 v2 v3 }

-- the steps from a state, one after the other, each answered as it must be, and then the test of the state at the end; `go` is a step
abbrev pub plays : (State → List ℕ → Outcome) → List Try → (State → Bool) → State → Bool
plays go [] test s = test s
plays go (t ∷ ts) test s =
    let o = go s t.log in
    t.fits o.answer && plays go ts test o.state

-- a case of the table
pub record Edge : Type 0 where
  pub steps : List Try
  pub then : State → Bool

abbrev pub holds : Edge → Bool
holds e = plays (λ s log. step s log 0) e.steps e.then fresh

-- nothing more than the answers
abbrev pub answered : State → Bool
answered s = true

-- "ranks 0 and 1 started on hosts 0 and 1"
abbrev pub started : List Try
started = accepts (Kind.start ∷ 0 ∷ 0 ∷ []) ∷ accepts (Kind.start ∷ 1 ∷ 1 ∷ []) ∷ []

-- the same, and joined by a plain line
abbrev pub joined : List Try
joined = started ++ accepts (Kind.call ∷ 0 ∷ 1 ∷ []) ∷ accepts (Kind.route ∷ 0 ∷ 1 ∷ []) ∷ []

-- "A start 15 on 7 accepted."
abbrev pub A : Edge
A = record { steps = accepts (Kind.start ∷ 15 ∷ 7 ∷ []) ∷ []; then = λ s. is_running (status s (rank 15)) }

-- "B start 16: 4."
abbrev pub B : Edge
B = record { steps = refuses (Kind.start ∷ 16 ∷ 0 ∷ []) 4 ∷ []; then = answered }

-- "C start 2 on 8: 5."
abbrev pub C : Edge
C = record { steps = started ++ refuses (Kind.start ∷ 2 ∷ 8 ∷ []) 5 ∷ []; then = answered }

-- "D call 0 0: 6."
abbrev pub D : Edge
D = record { steps = started ++ refuses (Kind.call ∷ 0 ∷ 0 ∷ []) 6 ∷ []; then = answered }

-- "E take with both ranks running, nothing sent: 22."
abbrev pub E : Edge
E = record { steps = started ++ refuses (Kind.take ∷ 1 ∷ 0 ∷ []) 22 ∷ []; then = answered }

-- "F calls 0 to 1 and 1 to 0, route 0 1: both calls gone."
abbrev pub F : Edge
F =
    record {
      steps =
          started ++
          accepts (Kind.call ∷ 0 ∷ 1 ∷ []) ∷
          accepts (Kind.call ∷ 1 ∷ 0 ∷ []) ∷
          accepts (Kind.route ∷ 0 ∷ 1 ∷ []) ∷ [];
      then =
          λ s.
          not (is_open_request (request s (rank 0))) &&
          not (is_open_request (request s (rank 1))) &&
          is_open (connection s (rank 0) (rank 1)) &&
          is_open (connection s (rank 1) (rank 0));
    }

-- "G joined 0 and 1 both move: both awaits marked, no heed needed (heed: 17)."
abbrev pub G : Edge
G =
    record {
      steps =
          joined ++
          accepts (Kind.move ∷ 0 ∷ 2 ∷ []) ∷
          accepts (Kind.move ∷ 1 ∷ 3 ∷ []) ∷
          refuses (Kind.heed ∷ 0 ∷ 1 ∷ []) 17 ∷
          refuses (Kind.heed ∷ 1 ∷ 0 ∷ []) 17 ∷ [];
      then = λ s. is_marked (backlog s (rank 0) (rank 1)) && is_marked (backlog s (rank 1) (rank 0));
    }

-- G goes on with no heed: a drain and a landing each
abbrev pub G_lands : Edge
G_lands =
    record {
      steps =
          joined ++
          accepts (Kind.move ∷ 0 ∷ 2 ∷ []) ∷
          accepts (Kind.move ∷ 1 ∷ 3 ∷ []) ∷
          accepts (Kind.drain ∷ 0 ∷ 1 ∷ []) ∷
          accepts (Kind.drain ∷ 1 ∷ 0 ∷ []) ∷
          accepts (Kind.land ∷ 0 ∷ []) ∷
          accepts (Kind.land ∷ 1 ∷ []) ∷ [];
      then = λ s. is_running (status s (rank 0)) && is_running (status s (rank 1));
    }

-- "H move without lines, then land: accepted."
abbrev pub H : Edge
H =
    record {
      steps = started ++ accepts (Kind.move ∷ 0 ∷ 2 ∷ []) ∷ accepts (Kind.land ∷ 0 ∷ []) ∷ [];
      then = λ s. is_running (status s (rank 0));
    }

-- "I land with await unheeded: 19."
abbrev pub I : Edge
I =
    record {
      steps = joined ++ accepts (Kind.move ∷ 1 ∷ 2 ∷ []) ∷ refuses (Kind.land ∷ 1 ∷ []) 19 ∷ [];
      then = λ s. is_migrating (status s (rank 1));
    }

-- "J drain then: 21."
abbrev pub J : Edge
J =
    record {
      steps =
          joined ++
          accepts (Kind.move ∷ 1 ∷ 2 ∷ []) ∷
          refuses (Kind.land ∷ 1 ∷ []) 19 ∷
          refuses (Kind.drain ∷ 1 ∷ 0 ∷ []) 21 ∷ [];
      then = answered;
    }

-- "Cases A to J below form one table whose truth, as a whole, is a theorem of the definitions."
pub record EdgesHold : Type 0 where
  pub case_A : holds A ≡ true
  pub case_B : holds B ≡ true
  pub case_C : holds C ≡ true
  pub case_D : holds D ≡ true
  pub case_E : holds E ≡ true
  pub case_F : holds F ≡ true
  pub case_G : holds G ≡ true
  pub case_G_lands : holds G_lands ≡ true
  pub case_H : holds H ≡ true
  pub case_I : holds I ≡ true
  pub case_J : holds J ≡ true
