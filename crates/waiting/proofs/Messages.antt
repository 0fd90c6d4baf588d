-- The messages of a call. Each goes to a cell of W that was still to come, after which it is none, so that each cell is messaged at most once.
-- Assumes nothing.
use Rattle.std.proofs.Common.{Bool, true, false, not, ◌&&◌, ◌||◌, true≢false, ◌≡◌, refl, sym, ap, ap₂, ◌∙◌, subst, List, [], ◌∷◌, ◌++◌, ℕ, arith, le-ltb, eqb-true, ltb, eqb}
use Rattle.std.proofs.lemmas.Bool.{and_parts, false≢true}
use Rattle.std.proofs.Math.Bool.{or-true, and-false}
use Rattle.base.specs.Lists.{all, pairwise}
use Rattle.machine_state.specs.declared.CallKind.{CallKind}
use Rattle.machine_state.specs.declared.CallKind.TheVariants.{Disable, Create, Start, SetLoadable, Destroy}
use Rattle.machine_state.specs.declared.Machine.{Machine}
use Rattle.rules.specs.Step.{step}
use Rattle.rules.specs.Asking.{may_be_messaged, asks, tells}
use Rattle.rules.specs.Account.{Account, Place, Asks, Tells, Ended, moves_to, cutting, stays, stays_with, remains, ended_at, waited_at}
use Rattle.rules.specs.Run.{Line, is_poll}
use Rattle.waiting.specs.Steps.{Moment, account, account_ended, next, cut_from, cell_of_place, messaged_with, messaged_in}
use Rattle.waiting.specs.Demand3.{times_due, in_w}
use Rattle.waiting.proofs.Machines.{NoneWoken}
use Rattle.waiting.proofs.Kept.{cut-none-woken}
use Rattle.waiting.proofs.Went.{Went, Heard, Fit, ask_ahead, tell_ahead, to_come}
use Rattle.waiting.proofs.Own.{follows-waits}
use Rattle.waiting.proofs.Runs.{Along, next-along, ended-stays, ended-next}
use Rattle.waiting.proofs.Progress.{hears, count_at, Progress, passed, unheard, heard, progress}

-- ---- a message

-- to the cell c, at a place to which the account has moved
pub record Sent (m : Machine) (kind : CallKind) (target : ℕ) (before : ℕ → Bool) (place : Place) : Type 0 where
  pub told : (asks kind target (waited_at place) || tells kind) ≡ true
  pub may : may_be_messaged m (waited_at place) ≡ true
  pub came : before (waited_at place) ≡ true
  pub out : to_come kind target place (waited_at place) ≡ false
  pub rest : (id : ℕ) → to_come kind target place id ≡ true → before id ≡ true

not-below-itself : (c : ℕ) → ltb c c ≡ false
not-below-itself c = le-ltb c c (omega arith)

-- a cell that is asked is not told as well: Destroy's target does not remain
asked-out : (kind : CallKind) (target c : ℕ) → asks kind target c ≡ true → (tells kind && remains target c) ≡ false
unfolding asks
asked-out Disable target c e = refl
asked-out Create target c e = absurd (false≢true e)
asked-out Start target c e = refl
asked-out SetLoadable target c e = refl
asked-out Destroy target c e = ap not e

sent : (m : Machine) (kind : CallKind) (target : ℕ) (before : ℕ → Bool) (effect : Bool) (place : Place) → Fit m kind target before effect place
    → ended_at place ≡ false → Sent m kind target before place
unfolding Fit to_come ask_ahead tell_ahead waited_at ended_at
sent m kind target before effect (Asks c) f n = record {
  told = rw f.asked;
  may = f.may;
  came = f.came;
  out = rw (not-below-itself c, asked-out kind target c f.asked, and-false (asks kind target c));
  rest = f.rest;
}
sent m kind target before effect (Tells c) f n = record {
  told = rw f.told (or-true (asks kind target c));
  may = f.may;
  came = f.came;
  out = rw (not-below-itself c) (and-false (tells kind && remains target c));
  rest = f.rest;
}
sent m kind target before effect (Ended code) f n = absurd (true≢false n)

cells-none : (place : Place) → ended_at place ≡ true → cell_of_place place ≡ []
unfolding cell_of_place ended_at
cells-none (Asks c) e = absurd (false≢true e)
cells-none (Tells c) e = absurd (false≢true e)
cells-none (Ended code) e = refl

cells-one : (place : Place) → ended_at place ≡ false → cell_of_place place ≡ waited_at place ∷ []
unfolding cell_of_place ended_at waited_at
cells-one (Asks c) e = refl
cells-one (Tells c) e = refl
cells-one (Ended code) e = absurd (true≢false e)

module _ (m : Machine) (kind : CallKind) (target : ℕ) (before : ℕ → Bool) (times : ℕ) (b : Account) (g : Went m kind target before times b) where
  went-none : ended_at b.place ≡ true → messaged_with b ≡ []
  unfolding messaged_with
  went-none e = ap messaged_with g.same ∙ cells-none g.place (ap (λ (x : Account). ended_at x.place) (sym g.same) ∙ e)

  pub went-sent : ended_at b.place ≡ false → (messaged_with b ≡ waited_at b.place ∷ []) × Sent m kind target before b.place
  unfolding messaged_with
  went-sent e =
      subst (λ (x : Account). (messaged_with x ≡ waited_at x.place ∷ []) × Sent m kind target before x.place) (sym g.same)
      (cells-one g.place goes_on, sent m kind target before g.effect g.place g.fit goes_on)
    where
      goes_on : ended_at g.place ≡ false
      goes_on = ap (λ (x : Account). ended_at x.place) (sym g.same) ∙ e

-- the same of a cell that was heard, on the machine before it
module _ (m : Machine) (kind : CallKind) (target : ℕ) (before : ℕ → Bool) (times : ℕ) (b : Account) (g : Heard m kind target before times b) where
  heard-none : ended_at b.place ≡ true → messaged_with b ≡ []
  unfolding messaged_with
  heard-none e = ap messaged_with g.same ∙ went-none _ kind target before times g.bare g.went (ap (λ (x : Account). ended_at x.place) (sym g.same) ∙ e)

  heard-sent : ended_at b.place ≡ false → (messaged_with b ≡ waited_at b.place ∷ []) × Sent m kind target before b.place
  unfolding messaged_with NoneWoken
  heard-sent e =
      subst (λ (x : Account). (messaged_with x ≡ waited_at x.place ∷ []) × Sent m kind target before x.place) (sym g.same) (
        bare.0,
        record {
          told = bare.1.told;
          may = (cut-none-woken g.cut m (waited_at g.bare.place) bare.1.may).0;
          came = bare.1.came;
          out = bare.1.out;
          rest = bare.1.rest;
        },
      )
    where
      bare : (messaged_with g.bare ≡ waited_at g.bare.place ∷ []) × Sent (cut_from g.cut m) kind target before g.bare.place
      bare = went-sent _ kind target before times g.bare g.went (ap (λ (x : Account). ended_at x.place) (sym g.same) ∙ e)

-- ---- lists of cells

all-mono : (p q : ℕ → Bool) → ((id : ℕ) → p id ≡ true → q id ≡ true) → (ids : List ℕ) → all p ids ≡ true → all q ids ≡ true
all-mono p q f [] e = refl
all-mono p q f (id ∷ ids) e = rw (f id ((and_parts (p id) (all p ids) e).0)) (all-mono p q f ids ((and_parts (p id) (all p ids) e).1))

-- one that a test does not pick differs from all that it picks
all-differ : (p : ℕ → Bool) (c : ℕ) → p c ≡ false → (ids : List ℕ) → all p ids ≡ true → all (λ id. not (eqb c id)) ids ≡ true
all-differ p c e ids h = all-mono p (λ id. not (eqb c id)) (λ id f. ap not (go id f (eqb c id) refl)) ids h
  where
    go : (id : ℕ) → p id ≡ true → (b : Bool) → eqb c id ≡ b → eqb c id ≡ false
    go id f true q = absurd (false≢true (sym e ∙ ap p (eqb-true c id q) ∙ f))
    go id f false q = q

-- ---- one event of a call

-- the account a began the call, which met the machine `met`
module _ (a : Account) (met : Machine) where
  -- a moment of the call
  pub record InCall (now : Moment) : Type 0 where
    pub along : Along met now
    pub kind : (account now).kind ≡ a.kind
    pub target : (account now).target ≡ a.target

  -- what an event does: nothing, or, at a poll at which the cell waited for is heard, a move to a place
  pub data Does (now : Moment) (l : Line) : Type 0 where
    nothing : is_poll l.event ≡ false → account (next step l now) ≡ stays (account now) → InCall (next step l now) → Does now l
    polls :
        is_poll l.event ≡ true → hears now ≡ false → account (next step l now) ≡ stays_with (count_at now) (account now) → InCall (next step l now)
        → Does now l
    ends : is_poll l.event ≡ true → hears now ≡ true → messaged_with (account (next step l now)) ≡ [] → account_ended (next step l now) ≡ true → Does now l
    moves :
        is_poll l.event ≡ true → hears now ≡ true → InCall (next step l now)
        → (account (next step l now)).polls ≡ 0 → messaged_with (account (next step l now)) ≡ waited_at (account (next step l now)).place ∷ []
        → Sent now.machine a.kind a.target (to_come a.kind a.target (account now).place) (account (next step l now)).place
        → Does now l

  still : (now : Moment) (l : Line) (count : ℕ) → InCall now → account (next step l now) ≡ stays_with count (account now) → InCall (next step l now)
  still now l count c e = record {
    along = next-along met l now c.along (ap (λ (x : Account). ended_at x.place) e ∙ (follows-waits now.machine now.watch c.along.follows).1);
    kind = ap (λ (x : Account). x.kind) e ∙ c.kind;
    target = ap (λ (x : Account). x.target) e ∙ c.target;
  }

  pub does : (now : Moment) (l : Line) → InCall now → Does now l
  does now l c = go (progress met now l c.along)
    where
      b : Account
      b = account (next step l now)

      go : Progress now l → Does now l
      go (passed p e) = nothing p e (still now l (account now).polls c e)
      go (unheard p h e) = polls p h e (still now l (count_at now) c e)
      go (heard p h g) = by_end (ended_at b.place) refl
        where
          place : Place
          place = (account now).place

          -- of the call that began
          same : Heard now.machine a.kind a.target (to_come a.kind a.target place) (times_due place) b
          same =
              subst (λ (t : ℕ). Heard now.machine a.kind t (to_come a.kind t place) (times_due place) b) c.target
              (subst (λ (k : CallKind). Heard now.machine k (account now).target (to_come k (account now).target place) (times_due place) b) c.kind g)

          moved : b ≡ cutting same.cut (moves_to a.kind a.target same.went.effect same.went.place)
          moved = same.same ∙ ap (cutting same.cut) same.went.same

          by_end : (t : Bool) → ended_at b.place ≡ t → Does now l
          by_end true e = ends p h (heard-none _ _ _ _ _ b same e) e
          by_end false e = moves p h goes_on (ap (λ (x : Account). x.polls) moved) (heard-sent _ _ _ _ _ b same e).0 (heard-sent _ _ _ _ _ b same e).1
            where
              goes_on : InCall (next step l now)
              goes_on = record {
                along = next-along met l now c.along e;
                kind = ap (λ (x : Account). x.kind) moved;
                target = ap (λ (x : Account). x.target) moved;
              }

  pub in-w : (m : Machine) (place : Place) (before : ℕ → Bool) → NoneWoken met m → Sent m a.kind a.target before place
      → in_w a met (waited_at place) ≡ true
  unfolding in_w NoneWoken
  in-w m place before w s = ap₂ (λ (x y : Bool). x && y) s.told (w (waited_at place) s.may).0

  -- ---- the cells that a list messages

  pub record Listed (place : Place) (cells : List ℕ) : Type 0 where
    pub inside : all (in_w a met) cells ≡ true
    pub ahead : all (to_come a.kind a.target place) cells ≡ true
    pub once : pairwise (λ x y. not (eqb x y)) cells ≡ true

  no_cells : (place : Place) → Listed place []
  unfolding pairwise
  no_cells place = record { inside = refl; ahead = refl; once = refl }

  pub one_more : (m : Machine) (before place : Place) (cells : List ℕ) → NoneWoken met m
      → Sent m a.kind a.target (to_come a.kind a.target before) place → Listed place cells → Listed before (waited_at place ∷ cells)
  unfolding pairwise
  one_more m before place cells w s l = record {
    inside = ap₂ (λ (x y : Bool). x && y) (in-w m place _ w s) l.inside;
    ahead = ap₂ (λ (x y : Bool). x && y) s.came (all-mono _ _ s.rest cells l.ahead);
    once = ap₂ (λ (x y : Bool). x && y) (all-differ _ (waited_at place) s.out cells l.ahead) l.once;
  }

  none-when-ended : (ls : List Line) (now : Moment) → account_ended now ≡ true → messaged_in step now ls ≡ []
  unfolding messaged_in messaged_with
  none-when-ended [] now e = refl
  none-when-ended (l ∷ ls) now e =
      ap (λ (x : Account). messaged_with x ++ messaged_in step (next step l now) ls) (ended-stays l now e)
      ∙ none-when-ended ls (next step l now) (ended-next l now e)

  pub listed : (ls : List Line) (now : Moment) → InCall now → Listed (account now).place (messaged_in step now ls)
  unfolding messaged_in messaged_with
  listed [] now c = no_cells (account now).place
  listed (l ∷ ls) now c = go (does now l c) (listed ls (next step l now))
    where
      b : Account
      b = account (next step l now)

      rest : List ℕ
      rest = messaged_in step (next step l now) ls

      before : Place
      before = (account now).place

      stayed : (count : ℕ) → b ≡ stays_with count (account now) → Listed b.place rest → Listed before (messaged_with b ++ rest)
      stayed count e h = subst (λ (x : Account). Listed x.place rest → Listed before (messaged_with x ++ rest)) (sym e) (λ i. i) h

      go : Does now l → (InCall (next step l now) → Listed b.place rest) → Listed before (messaged_with b ++ rest)
      go (nothing p e i) f = stayed (account now).polls e (f i)
      go (polls p h e i) f = stayed (count_at now) e (f i)
      go (ends p h n e) f =
          subst (λ (cs : List ℕ). Listed before (cs ++ rest)) (sym n)
          (subst (Listed before) (sym (none-when-ended ls (next step l now) e)) (no_cells before))
      go (moves p h i z n s) f = subst (λ (cs : List ℕ). Listed before (cs ++ rest)) (sym n) (one_more now.machine before b.place rest c.along.woken s (f i))
