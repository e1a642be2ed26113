use Rattle.std.proofs.Common.{◌<◌, ◌∙◌, Ok, Err, length}
use Rattle.ref_value.specs.Edn.{Edn}
use Rattle.ref_edn.specs.Faults.{Answers}
use Rattle.ref_edn.specs.ReadParts.{whole_at, public_error}
use Rattle.ref_edn.specs.Reading.{one}
use Rattle.ref_edn.proofs.BothWays.{answers_error, one_of_whole, one_not_utf8, one_found, one_none}
use Rattle.ref_edn.proofs.reader.read_one.Goals as goal

pub returns-in-Err-clause-fault : goal.returns-in-Err-clause-fault
returns-in-Err-clause-fault c =
    let h = c.in-Err.ensures.cases in
    let short : c.valid_up_to.result < length c.args.text.now = rw c.valid_up_to.ensures h.1.short in
    one_not_utf8 (λ (v : Edn). v) c.args.text.now c.valid_up_to.result h.0 short (c.valid_up_to.ensures ∙ c.in-Err.ensures.valid_len)

pub returns-in-Ok-clause-found : goal.returns-in-Ok-clause-found
returns-in-Ok-clause-found c = one_found (λ (v : Edn). v) c.args.text.now (Ok c.in-Ok.value) (one_of_whole c.args.text.now c.in_default.ensures.cases.1 ∙ c.in-Ok.ensures)

pub returns-in-Ok-clause-fault : goal.returns-in-Ok-clause-fault
returns-in-Ok-clause-fault c = one_of_whole c.args.text.now c.in_default.ensures.cases.1 ∙ c.in-Ok.ensures

pub returns-in-Err-whole-clause-none : goal.returns-in-Err-whole-clause-none
returns-in-Err-whole-clause-none c =
    let fault : Answers c.args.text.now (λ (v : Edn). v) (Err (public_error c.args.text.now c.in-Err-whole.error)) (one c.args.text.now) =
    rw (one_of_whole c.args.text.now c.in_default.ensures.cases.1) (answers_error c.args.text.now (λ (v : Edn). v) (whole_at c.args.text.now) c.in-Err-whole.error c.in-Err-whole.ensures) in
    rw c.public.ensures (one_none (λ (v : Edn). v) c.args.text.now (Err (public_error c.args.text.now c.in-Err-whole.error)) fault)

pub returns-in-Err-whole-clause-fault : goal.returns-in-Err-whole-clause-fault
returns-in-Err-whole-clause-fault c =
    rw (c.public.ensures, one_of_whole c.args.text.now c.in_default.ensures.cases.1) (answers_error c.args.text.now (λ (v : Edn). v) (whole_at c.args.text.now) c.in-Err-whole.error c.in-Err-whole.ensures)
