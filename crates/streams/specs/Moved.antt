-- How many bytes calls moved, of a result: `count` of what they gave, and where one failed what those before it moved.
use Rattle.std.specs.Prelude.{ℕ, Result, Ok, Err}
use Rattle.streams.specs.declared.BrokenOff.{BrokenOff}

abbrev pub moved : {A : Type 0} → (A → ℕ) → Result A BrokenOff → ℕ
moved count (Ok a) = count a
moved count (Err e) = e.moved
