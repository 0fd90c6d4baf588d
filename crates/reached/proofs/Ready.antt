-- What the tables of refusals have shown when a call goes on to ask: a record that fits for Create, a live target for Destroy. And what a cell
-- is that a call messages: live, not root and not passive. Assumes nothing.
use Rattle.std.proofs.Common.{◌≡◌, refl, sym, ap, ◌∙◌, Bool, true, false, not, ◌&&◌, ◌||◌, true≢false, inl, inr, List, ℕ, ◌+◌, ◌≤◌, ◌<◌, arith, ltb, eqb, ltb-false}
use Rattle.std.proofs.lemmas.Bool.{and_parts, not-true, or_parts}
use mathlib.Core.List.{Memᴰ}
use Rattle.base.specs.Lists.{any}
use Rattle.base.proofs.Tests.{fails, eq→eqb}
use Rattle.cpu_set.specs.CpuSet.{member, subset}
use Rattle.regions.specs.declared.MemRegion.{MemRegion}
use Rattle.cell_record.specs.CellRecord.{cell_of, cell_form, cell_valid, cell_regions}
use Rattle.machine_state.specs.declared.Machine.{Machine}
use Rattle.rules.specs.State.{root_id, cell_ids, no_id, first, live, active, is_final, state_at, comm_at, regions_at}
use Rattle.rules.specs.Effects.{pool_cost}
use Rattle.rules.specs.Create.{invalid, conflict, conflicts, region_in_use, busy, free_id, no_room}
use Rattle.rules.specs.Asking.{may_be_messaged, next_to_message}
use Rattle.rules.proofs.Ids.{Found, Search, first-from, any-from-false}
use Rattle.reached.proofs.Members.{none_of}
use Rattle.reached.proofs.Table.{Table, table_of}
use Rattle.reached.proofs.Sound.{Fits, IsCell, Sound, subset-member}

-- ---- whom a call messages

-- a live cell other than root, and not passive
pub record Messaged (t : Table) (id : ℕ) : Type 0 where
  pub cell : IsCell t id
  pub active-one : (t.config id).passive ≡ false

messaged : (m : Machine) (id : ℕ) → may_be_messaged m id ≡ true → Messaged (table_of m) id
unfolding may_be_messaged active
messaged m id e =
    let parts : (active m id ≡ true) × (not (comm_at m id).passive ≡ true) = and_parts (active m id) _ e in
    let more : ((not (eqb id root_id) && live m id) ≡ true) × (not (is_final (state_at m id)) ≡ true) = and_parts (not (eqb id root_id) && live m id) _ parts.0 in
    let names : (not (eqb id root_id) ≡ true) × (live m id ≡ true) = and_parts (not (eqb id root_id)) (live m id) more.0 in
    record {
      cell = record { other = λ q. fails (not-true (eqb id root_id) names.0) (eq→eqb id root_id q); lives = names.1 };
      active-one = not-true (comm_at m id).passive parts.1;
    }

pub next-is : (among : ℕ → Bool) (after : ℕ) (m : Machine) → ltb (next_to_message among after m) no_id ≡ true
    → (among (next_to_message among after m) ≡ true) × Messaged (table_of m) (next_to_message among after m)
unfolding next_to_message
next-is among after m e = go (first-from test 1 15)
  where
    test : ℕ → Bool
    test id = ltb after id && among id && may_be_messaged m id

    go : Search test 1 15 (first test cell_ids)
        → (among (first test cell_ids) ≡ true) × Messaged (table_of m) (first test cell_ids)
    go (inl f) =
        let found : ℕ = first test cell_ids in
        let parts : ((ltb after found && among found) ≡ true) × (may_be_messaged m found ≡ true) = and_parts (ltb after found && among found) _ f.passes in
        ((and_parts (ltb after found) (among found) parts.0).1, messaged m found parts.1)
    go (inr f) = absurd (true≢false (sym e ∙ ap (λ (n : ℕ). ltb n no_id) f.1))

-- ---- Create

valid-record : (a b c : Bool) → (not (a && b) || not c) ≡ false → (b ≡ true) × (c ≡ true)
valid-record true true true e = (refl, refl)
valid-record true true false e = absurd (true≢false e)
valid-record true false c e = absurd (true≢false e)
valid-record false b c e = absurd (true≢false e)

not-busy : (a b c : Bool) → (a || not b || c) ≡ false → (b ≡ true) × (c ≡ false)
not-busy true b c e = absurd (true≢false e)
not-busy false true c e = (refl, e)
not-busy false false c e = absurd (true≢false e)

no-conflict : (m : Machine) (rs : List MemRegion) → region_in_use rs m ≡ false → (i : ℕ) → IsCell (table_of m) i → i < 16
    → (r s : MemRegion) → Memᴰ r (regions_at m i) → Memᴰ s rs → conflict r s ≡ false
unfolding region_in_use conflicts
no-conflict m rs e i c h r s p q =
    let positive : 1 ≤ i = let n : i ≡ 0 → ⊥ = c.other in omega arith in
    let apart : (live m i && conflicts (regions_at m i) rs) ≡ false = any-from-false (λ id. live m id && conflicts (regions_at m id) rs) 1 15 e i positive h in
    let none : conflicts (regions_at m i) rs ≡ false = sym (ap (λ (b : Bool). b && conflicts (regions_at m i) rs) c.lives) ∙ apart in
    none_of (conflict r) rs (none_of (λ x. any (conflict x) rs) (regions_at m i) none r p) s q

pub fits : (m : Machine) (caller : ℕ) (bytes : List ℕ) → Sound (table_of m) → invalid bytes m ≡ false → busy caller (cell_of bytes) m ≡ false
    → no_room (cell_of bytes) m ≡ false → Fits (table_of m) (free_id m) (cell_of bytes)
unfolding invalid busy no_room free_id
fits m caller bytes s e f g = record {
  valid = record { rules = rules.0; started = rules.1 };
  from-root = λ k n. subset-member _ _ k free.0 n;
  regions = λ i c r t p q. no-conflict m (cell_regions (cell_of bytes)) free.1 i c (s.few i c.lives) r t p q;
  free = not-true (live m (free_id m)) found.passes;
  other = λ q. let low : 1 ≤ free_id m = found.low in omega arith;
  below = found.high;
  room = ltb-false m.system.pool.pages (m.pool_used + pool_cost (cell_of bytes).region_count) room.1;
}
  where
    rules : (cell_valid m.system (cell_of bytes) ≡ true) × (subset (cell_of bytes).cpus m.system.cpus ≡ true)
    rules = valid-record (cell_form bytes) _ _ e

    free : (subset (cell_of bytes).cpus m.root_cpus ≡ true) × (region_in_use (cell_regions (cell_of bytes)) m ≡ false)
    free = not-busy (member caller (cell_of bytes).cpus) _ _ f

    room : (eqb (free_id m) no_id ≡ false) × (ltb m.system.pool.pages (m.pool_used + pool_cost (cell_of bytes).region_count) ≡ false)
    room = or_parts (eqb (free_id m) no_id) _ g

    found : Found (λ id. not (live m id)) 1 15 (free_id m)
    found = go (first-from (λ id. not (live m id)) 1 15)
      where
        go : Search (λ id. not (live m id)) 1 15 (free_id m) → Found (λ id. not (live m id)) 1 15 (free_id m)
        go (inl f) = f
        go (inr f) = absurd (fails room.0 (eq→eqb (free_id m) no_id f.1))
