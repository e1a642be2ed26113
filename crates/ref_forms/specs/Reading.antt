-- How forms are read.
use Rattle.std.specs.Prelude.{◌≡◌, ◌≢◌, Option, None, Some, Result, Ok, Err}
use Rattle.ref_forms.specs.declared.wrong.Wrong.{Wrong}
use Rattle.ref_forms.specs.declared.wrong.Wrong.TheVariants as wrongs

-- What a form says is read, or that it says nothing; or memory is refused.
abbrev pub Reads : {A : Type 0} → Option A → Result A Wrong → Type 0
Reads said (Ok x) = said ≡ Some x
Reads said (Err wrong) = wrong ≢ wrongs.Memory → said ≡ None
