-- Questions about an answer. Document 01: "The return code is a signed 32-bit number, negative exactly for a refusal", and the six words of
-- events that are not obeyed.
use Rattle.std.specs.Prelude.{Bool, true, false, negsuc}
use Rattle.machine_state.specs.declared.Answer.{Answer}
use Rattle.machine_state.specs.declared.Answer.TheVariants.{Code, Wait, Done}

-- a negative code
unfoldable pub is_negative : Answer → Bool
is_negative (Code (negsuc n)) = true
is_negative _ = false

-- the event was not obeyed: one of the words `off`, `bad`, `stopped`, `held`, `denied`, `idle`
unfoldable pub is_unobeyed : Answer → Bool
is_unobeyed (Code code) = false
is_unobeyed (Wait cell) = false
is_unobeyed Done = false
is_unobeyed _ = true

-- a return code, and `wait`
unfoldable pub is_code : Answer → Bool
is_code (Code code) = true
is_code _ = false

unfoldable pub is_wait : Answer → Bool
is_wait (Wait id) = true
is_wait _ = false
