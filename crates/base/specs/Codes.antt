-- The reasons for a refusal, as the return codes that stand for them.
use Rattle.std.specs.Prelude.{◌≡◌, ℤ, pos, Result, Ok, Err}
use Rattle.base.specs.declared.Errno.{Errno}
use Rattle.base.specs.declared.Errno.TheVariants.{NotPermitted, NoEntry, TooBig, NoMemory, Busy, Exists, Invalid, OutOfRange, NoSuchCall}
use Rattle.base.specs.Rules.{EPERM, ENOENT, E2BIG, ENOMEM, EBUSY, EEXIST, EINVAL, ERANGE, ENOSYS}

-- the number of a code
abbrev pub number_of : Errno → ℤ
number_of NotPermitted = EPERM
number_of NoEntry = ENOENT
number_of TooBig = E2BIG
number_of NoMemory = ENOMEM
number_of Busy = EBUSY
number_of Exists = EEXIST
number_of Invalid = EINVAL
number_of OutOfRange = ERANGE
number_of NoSuchCall = ENOSYS

abbrev pub FromErrno : Errno → ℤ → Type 0
FromErrno why n = n ≡ number_of why

-- 0 for what is not refused, else the code of the refusal
abbrev pub code_of : Result (Unit {0}) Errno → ℤ
code_of (Ok tt) = pos 0
code_of (Err why) = number_of why
