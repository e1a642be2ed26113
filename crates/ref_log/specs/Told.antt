-- What a refused call returns.
use Rattle.std.specs.Prelude.{◌≡◌, ◌≢◌, Option, None, Some, Result, Ok, Err}

-- A call is refused exactly where there is a reason, and returns it.
abbrev pub Tells : {T Fault : Type 0} → Option Fault → Result T Fault → Type 0
Tells reason (Ok x) = reason ≡ None
Tells reason (Err fault) = reason ≡ Some fault

-- Which fault may be returned: the reason, or `memory` instead of success and of each reason but an early one. Early ones
-- are known before any memory is taken.
abbrev pub TellsFault : {Fault : Type 0} → Fault → Option Fault → Option Fault → Fault → Type 0
TellsFault memory early reason fault = (fault ≢ memory → reason ≡ Some fault) × (fault ≡ memory → early ≡ None)

-- A call is refused exactly where there is a reason, which it returns, but for out of memory.
abbrev pub TellsOrMemory : {T Fault : Type 0} → Fault → Option Fault → Option Fault → Result T Fault → Type 0
TellsOrMemory memory early reason (Ok x) = reason ≡ None
TellsOrMemory memory early reason (Err fault) = TellsFault memory early reason fault

-- The same, where every reason is early.
abbrev pub TellsThenMemory : {T Fault : Type 0} → Fault → Option Fault → Result T Fault → Type 0
TellsThenMemory memory reason result = TellsOrMemory memory reason reason result

-- The same of a call that returns what it was given.
abbrev pub TellsBack : {T Given Fault : Type 0} → Fault → Option Fault → Option Fault → Result T (Given × Fault) → Type 0
TellsBack memory early reason (Ok x) = reason ≡ None
TellsBack memory early reason (Err back) = TellsFault memory early reason back.1

-- The same of a call whose answer has a meaning: a value, or the reason.
abbrev pub AnswersOrMemory : {T Fault : Type 0} → Fault → Option Fault → Result T Fault → Result T Fault → Type 0
AnswersOrMemory memory early meant (Ok x) = meant ≡ Ok x
AnswersOrMemory memory early meant (Err fault) = (fault ≢ memory → meant ≡ Err fault) × (fault ≡ memory → early ≡ None)
