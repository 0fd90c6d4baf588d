-- The account of a waiting call. Document 01, "Asking and waiting", the paragraph "Account of a waiting call". It says a second time what a
-- call does, beside the machine's own way: it is fed the call once and keeps what it needs of it; then the replies, and the cells' records
-- and states. It sees nothing else of the machine, and never the field that holds the waiting call. It is about a call that no refusal of
-- its row has ended before anyone is asked.
use Rattle.std.specs.Prelude.{Bool, true, false, not, ◌&&◌, ◌||◌, List, [], ◌∷◌, ℕ, ltb, eqb, ℤ, pos, Option, None, Some}
use Rattle.base.specs.Lists.{any}
use Rattle.base.specs.Rules.{EPERM}
use Rattle.machine_state.specs.declared.CallKind.{CallKind}
use Rattle.machine_state.specs.declared.CallKind.TheVariants.{Create}
use Rattle.machine_state.specs.declared.Answer.{Answer}
use Rattle.machine_state.specs.declared.Answer.TheVariants.{Code, Wait}
use Rattle.rules.specs.State.{cell_ids, no_id, is_final, is_locked, running, failed}
use Rattle.rules.specs.Asking.{asks, tells, is_destroy, request_approved, is_last_poll, polls_after}

-- ".. every live cell's record and state": of the record, the ID, whether it is passive and its reply limit. Root, which has none of these, is
-- not among them
pub record Shown : Type 0 where
  pub id : ℕ
  pub passive : Bool
  pub limit : ℕ
  pub state : ℕ

-- where the account stands: it waits for a cell that it has asked, or told, or it has ended with a code
pub data Place : Type 0 where
  Asks : ℕ → Place
  Tells : ℕ → Place
  Ended : ℤ → Place

-- the account: the call with its target (of Create the ID that it chose); where it stands; how many polls since its message have found nothing,
-- counted where the cell has a limit; whether it moved there with the last event, and so messaged the cell that it waits for; whether the effect
-- came with that move; and which cell its limit cut off at that poll, if it did
pub record Account : Type 0 where
  pub kind : CallKind
  pub target : ℕ
  pub place : Place
  pub polls : ℕ
  pub moved : Bool
  pub effect : Bool
  pub cut : Option ℕ

-- it moves to a place, with the effect on the way or without; the cell that it heard was cut off; or it stays where it is
abbrev pub moves_to : CallKind → ℕ → Bool → Place → Account
moves_to kind target effect place =
    record { kind = kind; target = target; place = place; polls = 0; moved = true; effect = effect; cut = None }

abbrev pub cutting : Option ℕ → Account → Account
cutting cut a = record a { cut = cut }

abbrev pub stays_with : ℕ → Account → Account
stays_with polls a = record a { polls = polls; moved = false; effect = false; cut = None }

abbrev pub stays : Account → Account
stays a = stays_with a.polls a

-- "active and not passive"
abbrev pub messageable : Shown → Bool
messageable s = not (is_final s.state) && not s.passive

-- "the next cell to ask or tell, still active and not passive": the first after a given one, and `no_id` where there is none
unfoldable pub next_shown : (ℕ → Bool) → ℕ → List Shown → ℕ
next_shown among after [] = no_id
next_shown among after (s ∷ ss) =
    elim (ltb after s.id && among s.id && messageable s) [ true ↦ s.id | false ↦ next_shown among after ss ]

-- "smallest free ID from 1": the first that no live cell has
unfoldable pub unused_id : List ℕ → List Shown → ℕ
unused_id [] shown = no_id
unused_id (id ∷ ids) shown = elim (any (λ (s : Shown). eqb s.id id) shown) [ true ↦ unused_id ids shown | false ↦ id ]

-- the cell that the call is about: of Create the new one
unfoldable pub about_cell : CallKind → ℕ → List Shown → ℕ
about_cell Create target shown = unused_id cell_ids shown
about_cell _ target shown = target

-- "With none left to tell it ends with the new ID or 0"
unfoldable pub last_code : CallKind → ℕ → ℤ
last_code Create target = pos target
last_code _ target = pos 0

-- "tell all remaining cells": Destroy's target is gone, and the cell that Create made, which is shut down, is not told
abbrev pub remains : ℕ → ℕ → Bool
remains target id = not (eqb id target)

-- "To move on", telling; `effect` says whether the effect comes with this move
unfoldable pub tell_on : CallKind → ℕ → Bool → ℕ → List Shown → Account
tell_on kind target effect after shown =
    let next = next_shown (remains target) after shown in
    moves_to kind target effect (elim (ltb next no_id) [ true ↦ Tells next | false ↦ Ended (last_code kind target) ])

-- "the effect comes, Create and Destroy begin to tell and move on, the others end with 0"
unfoldable pub effect_comes : CallKind → ℕ → List Shown → Account
effect_comes kind target shown =
    elim (tells kind) [ true ↦ tell_on kind target true 0 shown | false ↦ moves_to kind target true (Ended (pos 0)) ]

-- "Destroy ends with -1 if another cell has a lock (state 1); else the effect comes"
unfoldable pub lock_shown : ℕ → List Shown → Bool
lock_shown target shown = any (λ (s : Shown). not (eqb s.id target) && is_locked s.state) shown

unfoldable pub none_left_to_ask : CallKind → ℕ → List Shown → Account
none_left_to_ask kind target shown =
    elim (is_destroy kind && lock_shown target shown) [ true ↦ moves_to kind target false (Ended EPERM) | false ↦ effect_comes kind target shown ]

-- "To move on", asking: "message the next cell .. and wait for it"
unfoldable pub ask_on : CallKind → ℕ → ℕ → List Shown → Account
ask_on kind target after shown =
    let next = next_shown (asks kind target) after shown in
    elim (ltb next no_id) [ true ↦ moves_to kind target false (Asks next) | false ↦ none_left_to_ask kind target shown ]

-- "It is fed the call", and "begins to ask and moves on"
unfoldable pub begun : CallKind → ℕ → List Shown → Account
begun kind target shown = ask_on kind (about_cell kind target shown) 0 shown

-- the cell waited for; one that is not shown is running and has no limit
unfoldable pub cell_shown : ℕ → List Shown → Shown
cell_shown id [] = record { id = id; passive = false; limit = 0; state = running }
cell_shown id (s ∷ ss) = elim (eqb s.id id) [ true ↦ s | false ↦ cell_shown id ss ]

abbrev pub state_shown : ℕ → List Shown → ℕ
state_shown id shown = (cell_shown id shown).state

abbrev pub limit_shown : ℕ → List Shown → ℕ
limit_shown id shown = (cell_shown id shown).limit

-- "From = 0 and state not final .. Otherwise it is heard: a final state counts as consent; else for message 1 only from = 3 consents"
unfoldable pub heard_by : ℕ → ℕ → Bool
heard_by reply state = not (eqb reply 0) || is_final state

unfoldable pub consents_by : ℕ → ℕ → Bool
consents_by reply state = is_final state || eqb reply request_approved

-- C-14: "the cell's state becomes 3 .. and it is heard as final, in document 01's account too"
unfoldable pub failed_shown : ℕ → List Shown → List Shown
failed_shown id [] = []
failed_shown id (s ∷ ss) =
    record s { state = elim (eqb s.id id) [ true ↦ failed | false ↦ s.state ] } ∷ failed_shown id ss

-- a cell that has shown neither reply nor final state: at the poll that its limit names it is cut off and heard as `cuts` says; else the account
-- stays where it is, and counts the poll where the cell has a limit
unfoldable pub unheard_at : ℕ → Account → List Shown → Account → Account
unheard_at c a shown cuts =
    elim (is_last_poll (limit_shown c shown) a.polls) [ true ↦ cutting (Some c) cuts | false ↦ stays_with (polls_after (limit_shown c shown) a.polls) a ]

-- a poll, with the reply of the cell waited for, 0 where there is none: "a cell not heard keeps it as it is; a denial ends it, -1; else it
-- moves on"; "for message 2 any value serves". An account that has ended stays ended
unfoldable pub polled_at : Place → Account → ℕ → List Shown → Account
polled_at (Ended code) a reply shown = stays a
polled_at (Tells c) a reply shown =
    elim (heard_by reply (state_shown c shown)) [
      | true ↦ tell_on a.kind a.target false c shown
      | false ↦ unheard_at c a shown (tell_on a.kind a.target false c (failed_shown c shown))
    ]
polled_at (Asks c) a reply shown =
    elim (heard_by reply (state_shown c shown)) [
      | true ↦ elim (consents_by reply (state_shown c shown)) [
        | true ↦ ask_on a.kind a.target c shown
        | false ↦ moves_to a.kind a.target false (Ended EPERM)
      ]
      | false ↦ unheard_at c a shown (ask_on a.kind a.target c (failed_shown c shown))
    ]

unfoldable pub polled : Account → ℕ → List Shown → Account
polled a reply shown = polled_at a.place a reply shown

-- "It answers `wait` with the cell now waited for, or `code` with its end"
unfoldable pub answer_at : Place → Answer
answer_at (Asks c) = Wait c
answer_at (Tells c) = Wait c
answer_at (Ended code) = Code code

abbrev pub answer_of : Account → Answer
answer_of a = answer_at a.place

-- it has ended; the cell that it waits for, and 0, root, where it has ended
unfoldable pub ended_at : Place → Bool
ended_at (Asks c) = false
ended_at (Tells c) = false
ended_at (Ended code) = true

unfoldable pub waited_at : Place → ℕ
waited_at (Asks c) = c
waited_at (Tells c) = c
waited_at (Ended code) = 0
