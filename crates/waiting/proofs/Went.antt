-- Where the account goes when it moves on: to a cell that the machine shows as one that may be messaged and that was still to come, past all that
-- it has messaged; with the effect where none is left to ask; or to its end. Each follows from the search for the next cell. Assumes nothing.
use Rattle.std.proofs.Common.{Bool, true, false, ◌&&◌, ◌||◌, true≢false, ◌≡◌, refl, sym, ap, ◌∙◌, subst, ◌⊎◌, inl, inr, ℕ, ◌+◌, ◌<◌, List, arith, ltb-true, lt-ltb, ltb, pos, length, Option, None, Some}
use Rattle.std.proofs.lemmas.Bool.{and_parts, false≢true}
use Rattle.std.proofs.Math.Bool.{or-true}
use Rattle.base.specs.Rules.{EPERM}
use Rattle.base.proofs.Tests.{is_true, is_false}
use Rattle.machine_state.specs.declared.CallKind.{CallKind}
use Rattle.machine_state.specs.declared.CallKind.TheVariants.{Disable, Create, Start, SetLoadable, Destroy}
use Rattle.machine_state.specs.declared.Machine.{Machine}
use Rattle.rules.specs.State.{cell_ids, no_id, first}
use Rattle.rules.specs.Effects.{cell_cut_off}
use Rattle.rules.specs.Asking.{may_be_messaged, next_to_message, asks, tells, is_destroy, is_last_poll, polls_after}
use Rattle.rules.specs.Account.{Shown, Account, Place, Asks, Tells, Ended, moves_to, cutting, stays_with, remains, next_shown, last_code, tell_on, effect_comes, lock_shown, none_left_to_ask, ask_on, heard_by, consents_by, state_shown, limit_shown, failed_shown, unheard_at, polled_at, polled, waited_at}
use Rattle.rules.specs.Observer.{shown_by}
use Rattle.rules.proofs.Ids.{by-test, Search, first-from}
use Rattle.waiting.specs.Steps.{cut_from, times_with}
use Rattle.waiting.specs.Demand3.{times_due}
use Rattle.waiting.proofs.Shown.{next-shown, failed-shown, live-lt}
use Rattle.waiting.proofs.Machines.{AllWords, NoneWoken, cut-woken}
use Rattle.waiting.proofs.Moves.{Heeds, AtPlace}

-- ---- the cells still to come

-- asking from a cell on: those after it that are asked, and all that remain, if any are told
unfoldable pub ask_ahead : CallKind → ℕ → ℕ → ℕ → Bool
ask_ahead kind target after id = (asks kind target id && ltb after id) || (tells kind && remains target id)

unfoldable pub tell_ahead : CallKind → ℕ → ℕ → ℕ → Bool
tell_ahead kind target after id = tells kind && remains target id && ltb after id

unfoldable pub to_come : CallKind → ℕ → Place → ℕ → Bool
to_come kind target (Asks c) id = ask_ahead kind target c id
to_come kind target (Tells c) id = tell_ahead kind target c id
to_come kind target (Ended code) id = false

and_mono : (p q r : Bool) → (q ≡ true → r ≡ true) → (p && q) ≡ true → (p && r) ≡ true
and_mono true q r f e = f e
and_mono false q r f e = e

higher : (a b c : ℕ) → ltb a b ≡ true → ltb b c ≡ true → ltb a c ≡ true
higher a b c e f = lt-ltb a c (omega (arith, ltb-true a b e, ltb-true b c f))

tell-further : (kind : CallKind) (target after c id : ℕ) → ltb after c ≡ true → tell_ahead kind target c id ≡ true → tell_ahead kind target after id ≡ true
unfolding tell_ahead
tell-further kind target after c id e h = and_mono (tells kind && remains target id) (ltb c id) (ltb after id) (higher after c id e) h

ask-further : (kind : CallKind) (target after c id : ℕ) → ltb after c ≡ true → ask_ahead kind target c id ≡ true → ask_ahead kind target after id ≡ true
unfolding ask_ahead
ask-further kind target after c id e h = go (asks kind target id) (ltb c id) refl (tells kind && remains target id) h
  where
    go : (p q : Bool) → ltb c id ≡ q → (r : Bool) → ((p && q) || r) ≡ true → ((p && ltb after id) || r) ≡ true
    go p q f true t = or-true (p && ltb after id)
    go true true f false t = rw (higher after c id e f)
    go true false f false t = absurd (false≢true t)
    go false q f false t = t

-- whoever remains is still to come while the call asks, and so is the next that it asks
all_tell : (kind : CallKind) (target after id : ℕ) → tell_ahead kind target 0 id ≡ true → ask_ahead kind target after id ≡ true
unfolding tell_ahead ask_ahead
all_tell kind target after id h =
    rw ((and_parts (tells kind && remains target id) (ltb 0 id) h).0) (or-true (asks kind target id && ltb after id))

next-ask : (kind : CallKind) (target after id : ℕ) → asks kind target id ≡ true → ltb after id ≡ true → ask_ahead kind target after id ≡ true
unfolding ask_ahead
next-ask kind target after id e f = rw (e, f)

-- ---- the next cell

record NextCell (among : ℕ → Bool) (after : ℕ) (m : Machine) (next : ℕ) : Type 0 where
  passes : among next ≡ true
  above : ltb after next ≡ true
  may : may_be_messaged m next ≡ true

next-cell : (among : ℕ → Bool) (after : ℕ) (m : Machine) → ltb (next_shown among after (shown_by m)) no_id ≡ true
    → NextCell among after m (next_shown among after (shown_by m))
unfolding next_to_message
next-cell among after m h = subst (NextCell among after m) (sym (next-shown m among after)) (go (first-from test 1 15))
  where
    test : ℕ → Bool
    test id = ltb after id && among id && may_be_messaged m id

    next : ℕ
    next = first test cell_ids

    go : Search test 1 15 next → NextCell among after m next
    go (inl f) = record {
      passes = (and_parts (ltb after next) (among next) ((and_parts (ltb after next && among next) (may_be_messaged m next) f.passes).0)).1;
      above = (and_parts (ltb after next) (among next) ((and_parts (ltb after next && among next) (may_be_messaged m next) f.passes).0)).0;
      may = (and_parts (ltb after next && among next) (may_be_messaged m next) f.passes).1;
    }
    go (inr f) = absurd (true≢false (sym h ∙ ap (λ (n : ℕ). ltb n no_id) (next-shown m among after ∙ f.1)))

-- ---- where it went

-- a place that the account has moved to, from one where the cells of `before` were to come
pub record ToAsk (m : Machine) (kind : CallKind) (target : ℕ) (before : ℕ → Bool) (effect : Bool) (c : ℕ) : Type 0 where
  pub asked : asks kind target c ≡ true
  pub may : may_be_messaged m c ≡ true
  pub without : effect ≡ false
  pub came : before c ≡ true
  pub rest : (id : ℕ) → ask_ahead kind target c id ≡ true → before id ≡ true

pub record ToTell (m : Machine) (kind : CallKind) (target : ℕ) (before : ℕ → Bool) (effect : Bool) (c : ℕ) : Type 0 where
  pub told : tells kind ≡ true
  pub remaining : remains target c ≡ true
  pub may : may_be_messaged m c ≡ true
  -- once the effect has come, the target may not be messaged
  pub gone : effect ≡ false → may_be_messaged m target ≡ false
  pub came : before c ≡ true
  pub rest : (id : ℕ) → tell_ahead kind target c id ≡ true → before id ≡ true

unfoldable pub Fit : Machine → CallKind → ℕ → (ℕ → Bool) → Bool → Place → Type 0
Fit m kind target before effect (Asks c) = ToAsk m kind target before effect c
Fit m kind target before effect (Tells c) = ToTell m kind target before effect c
Fit m kind target before effect (Ended code) = Unit

-- which calls stand at a place
unfoldable pub KindAt : CallKind → ℕ → Place → Type 0
KindAt kind target (Asks c) = asks kind target c ≡ true
KindAt kind target (Tells c) = tells kind ≡ true
KindAt kind target (Ended code) = Unit

-- `times` counts the effect up to then
pub record Went (m : Machine) (kind : CallKind) (target : ℕ) (before : ℕ → Bool) (times : ℕ) (a : Account) : Type 0 where
  pub effect : Bool
  pub place : Place
  pub same : a ≡ moves_to kind target effect place
  pub fit : Fit m kind target before effect place
  pub due : times_due place ≡ times + times_with (moves_to kind target effect place)

last-due : (kind : CallKind) (target : ℕ) → times_due (Ended (last_code kind target)) ≡ 1
unfolding times_due last_code
last-due Disable target = refl
last-due Create target = refl
last-due Start target = refl
last-due SetLoadable target = refl
last-due Destroy target = refl

times : Bool → ℕ
times effect = elim effect [ true ↦ 1 | false ↦ 0 ]

module _ (m : Machine) (kind : CallKind) (target : ℕ) where
  tell-went : (effect : Bool) (after : ℕ) (before : ℕ → Bool) (old : ℕ) → tells kind ≡ true → (effect ≡ false → may_be_messaged m target ≡ false)
      → ((id : ℕ) → tell_ahead kind target after id ≡ true → before id ≡ true) → old + times effect ≡ 1
      → Went m kind target before old (tell_on kind target effect after (shown_by m))
  unfolding tell_on Fit times_due times_with tell_ahead times
  tell-went effect after before old t gone ahead one = go (ltb next no_id) refl
    where
      next : ℕ
      next = next_shown (remains target) after (shown_by m)

      there : ltb next no_id ≡ true → NextCell (remains target) after m next
      there e = next-cell (remains target) after m e

      go : (b : Bool) → ltb next no_id ≡ b
          → Went m kind target before old (moves_to kind target effect (elim b [ true ↦ Tells next | false ↦ Ended (last_code kind target) ]))
      go true e = record {
        effect = effect;
        place = Tells next;
        same = refl;
        fit = record {
          told = t;
          remaining = (there e).passes;
          may = (there e).may;
          gone = gone;
          came = ahead next (rw (t, (there e).passes) (there e).above);
          rest = λ id h. ahead id (tell-further kind target after next id (there e).above h);
        };
        due = sym one;
      }
      go false e = record { effect = effect; place = Ended (last_code kind target); same = refl; fit = tt; due = last-due kind target ∙ sym one }

  effect-went : (after : ℕ) → Went m kind target (ask_ahead kind target after) 0 (effect_comes kind target (shown_by m))
  unfolding effect_comes Fit times_due times_with times
  effect-went after = go (tells kind) refl
    where
      go : (b : Bool) → tells kind ≡ b
          → Went m kind target (ask_ahead kind target after) 0
          (elim b [ true ↦ tell_on kind target true 0 (shown_by m) | false ↦ moves_to kind target true (Ended (pos 0)) ])
      go true e = tell-went true 0 (ask_ahead kind target after) 0 e (λ f. absurd (true≢false f)) (λ id h. all_tell kind target after id h) refl
      go false e = record { effect = true; place = Ended (pos 0); same = refl; fit = tt; due = refl }

  none-went : (after : ℕ) → Went m kind target (ask_ahead kind target after) 0 (none_left_to_ask kind target (shown_by m))
  unfolding none_left_to_ask Fit times_due times_with
  none-went after =
      by-test (Went m kind target (ask_ahead kind target after) 0) (is_destroy kind && lock_shown target (shown_by m)) _ _
      (λ e. record { effect = false; place = Ended EPERM; same = refl; fit = tt; due = refl }) (λ e. effect-went after)

  pub ask-went : (after : ℕ) → Went m kind target (ask_ahead kind target after) 0 (ask_on kind target after (shown_by m))
  unfolding ask_on Fit times_due times_with
  ask-went after =
      by-test (Went m kind target (ask_ahead kind target after) 0) (ltb next no_id) _ _
      (λ e. record {
        effect = false;
        place = Asks next;
        same = refl;
        fit = record {
          asked = (there e).passes;
          may = (there e).may;
          without = refl;
          came = next-ask kind target after next (there e).passes (there e).above;
          rest = λ id h. ask-further kind target after next id (there e).above h;
        };
        due = refl;
      })
      (λ e. none-went after)
    where
      next : ℕ
      next = next_shown (asks kind target) after (shown_by m)

      there : ltb next no_id ≡ true → NextCell (asks kind target) after m next
      there e = next-cell (asks kind target) after m e

-- ---- a poll

-- where it went when the cell waited for was heard: as it goes on the machine on which it was
pub record Heard (m : Machine) (kind : CallKind) (target : ℕ) (before : ℕ → Bool) (times : ℕ) (b : Account) : Type 0 where
  pub cut : Option ℕ
  pub bare : Account
  pub same : b ≡ cutting cut bare
  pub went : Went (cut_from cut m) kind target before times bare

-- with no cell cut off
heard-whole : (m : Machine) (kind : CallKind) (target : ℕ) (before : ℕ → Bool) (times : ℕ) (b : Account)
    → Went m kind target before times b → Heard m kind target before times b
unfolding cut_from
heard-whole m kind target before times b g =
    record { cut = None; bare = b; same = ap (λ (a : Account). cutting a.cut b) g.same; went = g }

-- with the cell c cut off
heard-cut : (c : ℕ) (m : Machine) (kind : CallKind) (target : ℕ) (before : ℕ → Bool) (times : ℕ) (b : Account)
    → Went (cell_cut_off c m) kind target before times b → Heard m kind target before times (cutting (Some c) b)
unfolding cut_from
heard-cut c m kind target before times b g = record { cut = Some c; bare = b; same = refl; went = g }

module _ (m : Machine) (kind : CallKind) (target : ℕ) where
  -- the cell waited for shows a reply or a final state, or its limit has it heard
  abbrev pub hears_now : Place → ℕ → ℕ → Bool
  hears_now place polls reply =
      heard_by reply (state_shown (waited_at place) (shown_by m)) || is_last_poll (limit_shown (waited_at place) (shown_by m)) polls

  -- a cell not heard leaves the account where it is, the poll counted; else it goes on
  unfoldable pub Polled : Place → ℕ → Account → Account → Type 0
  Polled place reply a b =
      ((hears_now place a.polls reply ≡ false) × (b ≡ stays_with (polls_after (limit_shown (waited_at place) (shown_by m)) a.polls) a))
      ⊎ ((hears_now place a.polls reply ≡ true) × Heard m kind target (to_come kind target place) (times_due place) b)

  module _ (place : Place) (reply : ℕ) (a : Account) where
    -- by the two tests
    by-hearing : (heard last : Bool) (goes cuts : Account) → heard_by reply (state_shown (waited_at place) (shown_by m)) ≡ heard
        → is_last_poll (limit_shown (waited_at place) (shown_by m)) a.polls ≡ last
        → (heard ≡ true → Heard m kind target (to_come kind target place) (times_due place) goes)
        → (last ≡ true → Heard m kind target (to_come kind target place) (times_due place) cuts)
        → Polled place reply a
        (elim heard [ true ↦ goes | false ↦ elim last [ true ↦ cuts | false ↦ stays_with (polls_after (limit_shown (waited_at place) (shown_by m)) a.polls) a ] ])
    unfolding Polled
    by-hearing true last goes cuts e f g k = inr (rw e refl, g refl)
    by-hearing false true goes cuts e f g k = inr (rw (e, f) refl, k refl)
    by-hearing false false goes cuts e f g k = inl (rw (e, f) refl, refl)

  module _ (h : AllWords m) where
    inside : (c reply : ℕ) → Heeds m c reply → c < length m.comms
    inside c reply w = subst (λ (n : ℕ). c < n) (sym h) (live-lt m c w.alive)

    asks-cut : (c reply : ℕ) → Heeds m c reply
        → Heard m kind target (ask_ahead kind target c) 0 (cutting (Some c) (ask_on kind target c (failed_shown c (shown_by m))))
    asks-cut c reply w =
        subst (λ (shown : List Shown). Heard m kind target (ask_ahead kind target c) 0 (cutting (Some c) (ask_on kind target c shown)))
        (sym (failed-shown m c (inside c reply w)))
        (heard-cut c m kind target (ask_ahead kind target c) 0 (ask_on kind target c (shown_by (cell_cut_off c m))) (ask-went (cell_cut_off c m) kind target c))

    tells-cut : (c reply : ℕ) → Heeds m c reply → tells kind ≡ true → may_be_messaged m target ≡ false
        → Heard m kind target (tell_ahead kind target c) 1 (cutting (Some c) (tell_on kind target false c (failed_shown c (shown_by m))))
    unfolding NoneWoken times
    tells-cut c reply w k e =
        subst (λ (shown : List Shown). Heard m kind target (tell_ahead kind target c) 1 (cutting (Some c) (tell_on kind target false c shown)))
        (sym (failed-shown m c (inside c reply w)))
        (heard-cut c m kind target (tell_ahead kind target c) 1 (tell_on kind target false c (shown_by (cell_cut_off c m)))
        (tell-went (cell_cut_off c m) kind target false c (tell_ahead kind target c) 1 k
        (λ f. is_false (may_be_messaged (cell_cut_off c m) target) (λ t. true≢false (sym (cut-woken c m target (is_true _ t)).0 ∙ e))) (λ id g. g) refl))

    poll-at-went : (place : Place) (a : Account) (reply : ℕ) → a.kind ≡ kind → a.target ≡ target → AtPlace m target place reply → KindAt kind target place
        → Polled place reply a (polled_at place a reply (shown_by m))
    unfolding polled_at unheard_at AtPlace KindAt to_come times_due times_with waited_at Fit times
    poll-at-went (Asks c) a reply e f w k =
        by-hearing (Asks c) reply a (heard_by reply state) (is_last_poll (limit_shown c (shown_by m)) a.polls)
        (elim (consents_by reply state) [ true ↦ ask_on a.kind a.target c (shown_by m) | false ↦ moves_to a.kind a.target false (Ended EPERM) ])
        (cutting (Some c) (ask_on a.kind a.target c (failed_shown c (shown_by m)))) refl refl
        (λ t. by-test Here (consents_by reply state) _ _ (λ d. of-call (λ i j. ask_on i j c (shown_by m)) asked) (λ d. of-call (λ i j. moves_to i j false (Ended EPERM)) denied))
        (λ t. of-call (λ i j. cutting (Some c) (ask_on i j c (failed_shown c (shown_by m)))) (asks-cut c reply w))
      where
        state : ℕ
        state = state_shown c (shown_by m)

        Here : Account → Type 0
        Here b = Heard m kind target (ask_ahead kind target c) 0 b

        of-call : (b : CallKind → ℕ → Account) → Here (b kind target) → Here (b a.kind a.target)
        of-call b g = subst (λ (j : ℕ). Here (b a.kind j)) (sym f) (subst (λ (i : CallKind). Here (b i target)) (sym e) g)

        asked : Here (ask_on kind target c (shown_by m))
        asked = heard-whole m kind target (ask_ahead kind target c) 0 _ (ask-went m kind target c)

        denied : Here (moves_to kind target false (Ended EPERM))
        denied = heard-whole m kind target (ask_ahead kind target c) 0 _ (record { effect = false; place = Ended EPERM; same = refl; fit = tt; due = refl })
    poll-at-went (Tells c) a reply e f w k =
        by-hearing (Tells c) reply a (heard_by reply (state_shown c (shown_by m))) (is_last_poll (limit_shown c (shown_by m)) a.polls)
        (tell_on a.kind a.target false c (shown_by m)) (cutting (Some c) (tell_on a.kind a.target false c (failed_shown c (shown_by m)))) refl refl
        (λ t. of-call (λ i j. tell_on i j false c (shown_by m)) told)
        (λ t. of-call (λ i j. cutting (Some c) (tell_on i j false c (failed_shown c (shown_by m)))) (tells-cut c reply w.0 k w.1))
      where
        Here : Account → Type 0
        Here b = Heard m kind target (tell_ahead kind target c) 1 b

        of-call : (b : CallKind → ℕ → Account) → Here (b kind target) → Here (b a.kind a.target)
        of-call b g = subst (λ (j : ℕ). Here (b a.kind j)) (sym f) (subst (λ (i : CallKind). Here (b i target)) (sym e) g)

        told : Here (tell_on kind target false c (shown_by m))
        told =
            heard-whole m kind target (tell_ahead kind target c) 1 _ (tell-went m kind target false c (tell_ahead kind target c) 1 k (λ q. w.1) (λ id g. g) refl)
    poll-at-went (Ended code) a reply e f w k = absurd w

pub poll-went : (m : Machine) (a : Account) (reply : ℕ) → AllWords m → AtPlace m a.target a.place reply → KindAt a.kind a.target a.place
    → Polled m a.kind a.target a.place reply a (polled a reply (shown_by m))
unfolding polled
poll-went m a reply h w k = poll-at-went m a.kind a.target h a.place a reply refl refl w k
