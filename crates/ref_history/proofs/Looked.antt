-- What is drawn, and what a fault leaves of it.
use Rattle.std.proofs.Common.{◌≡◌, ℕ, List, [], ◌++◌, Option, refl}
use Rattle.std.specs.Prelude.{IfErr, IsErrAnd, OnOk, Result, Ok, Err}
use Rattle.std.proofs.KnownBytes.{Appends-nil, Appends-trans}
use Rattle.std.specs.Io.KnownBytes.{Appends}
use Rattle.ref_output.specs.Laws.{breaks_here, breaks_rest}
use Rattle.ref_output.specs.Pieces.{BreaksOff, Remains}
use Rattle.ref_output.specs.declared.faults.OutputFault.{OutputFault}
use Rattle.ref_output.specs.declared.faults.OutputFault.TheVariants.{Memory}
use Rattle.ref_history.specs.Written.{Draws, DrawsPart}

drawn : (a b : Option (List ℕ)) (v : Draws a b) (more : List ℕ) → Remains a b (v.0 ++ more) more
drawn a b v more = record { front = v.0; output_is = refl; appended = v.1 }

pub draws_none : (a : Option (List ℕ)) → Draws a a
draws_none a = ([], Appends-nil a)

pub draws_then : (a b c : Option (List ℕ)) → Draws a b → Draws b c → Draws a c
draws_then a b c v w = (v.0 ++ w.0, Appends-trans a b c v.0 w.0 v.1 w.1)

pub draws_piece : (a b c : Option (List ℕ)) (output rest : List ℕ) → Draws a b → Remains b c output rest → Draws a c
draws_piece a b c output rest v r = draws_then a b c v (r.front, r.appended)

pub draws_rest : {T : Type 0} (r : Result T OutputFault) (a b c : Option (List ℕ)) (rest : List ℕ) → Draws a b → IfErr r (λ f. BreaksOff f b c rest) → IfErr r (λ f. DrawsPart f a c)
draws_rest (Ok x) a b c rest v w = tt
draws_rest (Err f) a b c rest v w = (v.0 ++ rest, breaks_rest f a b c (v.0 ++ rest) rest (drawn a b v rest) w)

pub draws_whole : {T : Type 0} (r : Result T OutputFault) (a b c : Option (List ℕ)) (rest : List ℕ) → Draws a b → OnOk r (Appends b c rest) → OnOk r (Draws a c)
draws_whole (Ok x) a b c rest v w = draws_then a b c v (rest, w)
draws_whole (Err f) a b c rest v w = tt

pub draws_told : {T : Type 0} (r : Result T OutputFault) (f : OutputFault) (a b c : Option (List ℕ)) → IsErrAnd r (λ g. g ≡ f) → Draws a b → DrawsPart f b c → IfErr r (λ g. DrawsPart g a c)
draws_told (Ok x) f a b c told v w = tt
draws_told (Err g) f a b c told v w = rw told (v.0 ++ w.0, breaks_rest f a b c (v.0 ++ w.0) w.0 (drawn a b v w.0) w.1)

pub draws_memory : {T : Type 0} (r : Result T OutputFault) (a b : Option (List ℕ)) → IsErrAnd r (λ g. g ≡ Memory) → Draws a b → IfErr r (λ g. DrawsPart g a b)
draws_memory (Ok x) a b told v = tt
draws_memory (Err g) a b told v = rw told (v.0 ++ [], breaks_here a b (v.0 ++ []) [] (drawn a b v []))
