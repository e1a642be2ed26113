-- Faults of reading: what a reading function on lists answers, and what the reader answers for it.
use Rattle.std.specs.Prelude.{◌≡◌, ℕ, ◌-◌, List, length, Result, Ok, Err, Option, Some, None, codes}
use Rattle.ref_edn.specs.declared.faults.Flaw.{Flaw}
use Rattle.ref_edn.specs.declared.faults.Flaw.TheVariants as kinds
use Rattle.ref_edn.specs.declared.faults.Fault.{Fault}
use Rattle.ref_edn.specs.declared.faults.ReadError.{ReadError}
use Rattle.ref_edn.specs.declared.faults.ReadError.TheVariants as errors
use Rattle.ref_edn.specs.declared.faults.ReadFault.{ReadFault}
use Rattle.ref_edn.specs.declared.faults.ReadFault.TheVariants as faults

-- the name and the place of a fault
abbrev pub name_of : ReadFault → List ℕ
name_of (faults.Nothing place) = codes "Nothing"
name_of (faults.EndsEarly place) = codes "EndsEarly"
name_of (faults.BadByte place) = codes "BadByte"
name_of (faults.BadNumber place) = codes "BadNumber"
name_of (faults.TooLarge place) = codes "TooLarge"
name_of (faults.BadEscape place) = codes "BadEscape"
name_of (faults.BadName place) = codes "BadName"
name_of (faults.WrongClose place) = codes "WrongClose"
name_of (faults.Duplicate place) = codes "Duplicate"
name_of (faults.OddMap place) = codes "OddMap"
name_of (faults.TooDeep place) = codes "TooDeep"
name_of (faults.LeftOut place) = codes "LeftOut"
name_of (faults.NotUtf8 place) = codes "NotUtf8"
name_of (faults.Trailing place) = codes "Trailing"
name_of faults.Memory = codes "Memory"

abbrev pub place_of : ReadFault → Option ℕ
place_of (faults.Nothing place) = Some place
place_of (faults.EndsEarly place) = Some place
place_of (faults.BadByte place) = Some place
place_of (faults.BadNumber place) = Some place
place_of (faults.TooLarge place) = Some place
place_of (faults.BadEscape place) = Some place
place_of (faults.BadName place) = Some place
place_of (faults.WrongClose place) = Some place
place_of (faults.Duplicate place) = Some place
place_of (faults.OddMap place) = Some place
place_of (faults.TooDeep place) = Some place
place_of (faults.LeftOut place) = Some place
place_of (faults.NotUtf8 place) = Some place
place_of (faults.Trailing place) = Some place
place_of faults.Memory = None

-- the public fault of a kind at a place
abbrev pub fault_at : Flaw → ℕ → ReadFault
fault_at kinds.Nothing place = faults.Nothing place
fault_at kinds.EndsEarly place = faults.EndsEarly place
fault_at kinds.BadByte place = faults.BadByte place
fault_at kinds.BadNumber place = faults.BadNumber place
fault_at kinds.TooLarge place = faults.TooLarge place
fault_at kinds.BadEscape place = faults.BadEscape place
fault_at kinds.BadName place = faults.BadName place
fault_at kinds.WrongClose place = faults.WrongClose place
fault_at kinds.Duplicate place = faults.Duplicate place
fault_at kinds.OddMap place = faults.OddMap place
fault_at kinds.TooDeep place = faults.TooDeep place
fault_at kinds.LeftOut place = faults.LeftOut place
fault_at kinds.NotUtf8 place = faults.NotUtf8 place
fault_at kinds.Trailing place = faults.Trailing place

-- What is left over from a fault's place on gives the place.
abbrev pub public_fault : List ℕ → Fault → ReadFault
public_fault text f = fault_at f.kind (length text - f.left)

-- a fault that stands where these bytes are left
abbrev pub fault : {A : Type 0} → Flaw → List ℕ → Result A Fault
fault kind rest = Err (record { kind = kind; left = length rest })

infixl 10 ◌>>=◌
abbrev pub ◌>>=◌ : {A B E : Type 0} → Result A E → (A → Result B E) → Result B E
(Ok x) >>= f = f x
(Err e) >>= f = Err e

-- What a function returned, seen by view, is what reading gives, unless memory ran out.
abbrev pub Fails : {Y : Type 0} → ReadError → Result Y Fault → Type 0
Fails errors.Memory read = Unit {0}
Fails (errors.Fault f) read = read ≡ Err f

abbrev pub Gives : {X Y : Type 0} → (X → Y) → Result X ReadError → Result Y Fault → Type 0
Gives view (Ok x) read = read ≡ Ok (view x)
Gives view (Err e) read = Fails e read

-- The same of what is public, for a reading of this text.
abbrev pub Answers : {X Y : Type 0} → List ℕ → (X → Y) → Result X ReadFault → Result Y Fault → Type 0
Answers text view (Ok x) read = read ≡ Ok (view x)
Answers text view (Err faults.Memory) read = Unit {0}
Answers {Y = Y} text view (Err e) read = (f : Fault) × (read ≡ Err f) × (e ≡ public_fault text f)
