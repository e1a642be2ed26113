use Rattle.std.proofs.Common.{◌<◌, ◌∙◌, List, Ok, Err, length}
use Rattle.ref_value.specs.Edn.{Edn}
use Rattle.ref_edn.specs.Faults.{Answers}
use Rattle.ref_edn.specs.ReadParts.{series_at, public_error}
use Rattle.ref_edn.specs.Reading.{all}
use Rattle.ref_edn.proofs.BothWays.{answers_error, all_of_series, all_not_utf8, all_found, all_none}
use Rattle.ref_edn.proofs.reader.read_all.Goals as goal

pub returns-in-Err-clause-fault : goal.returns-in-Err-clause-fault
returns-in-Err-clause-fault c =
    let h = c.in-Err.ensures.cases in
    let short : c.valid_up_to.result < length c.args.text.now = rw c.valid_up_to.ensures h.1.short in
    all_not_utf8 (λ (v : List Edn). v) c.args.text.now c.valid_up_to.result h.0 short (c.valid_up_to.ensures ∙ c.in-Err.ensures.valid_len)

pub returns-in-Ok-clause-found : goal.returns-in-Ok-clause-found
returns-in-Ok-clause-found c = all_found (λ (v : List Edn). v) c.args.text.now (Ok c.in-Ok.values.items) (all_of_series c.args.text.now c.in_default.ensures.cases.1 ∙ c.in-Ok.ensures)

pub returns-in-Ok-clause-fault : goal.returns-in-Ok-clause-fault
returns-in-Ok-clause-fault c = all_of_series c.args.text.now c.in_default.ensures.cases.1 ∙ c.in-Ok.ensures

pub returns-in-Err-series-clause-none : goal.returns-in-Err-series-clause-none
returns-in-Err-series-clause-none c =
    let fault : Answers c.args.text.now (λ (v : List Edn). v) (Err (public_error c.args.text.now c.in-Err-series.error)) (all c.args.text.now) =
    rw (all_of_series c.args.text.now c.in_default.ensures.cases.1) (answers_error c.args.text.now (λ (v : List Edn). v) (series_at c.args.text.now) c.in-Err-series.error c.in-Err-series.ensures) in
    rw c.public.ensures (all_none (λ (v : List Edn). v) c.args.text.now (Err (public_error c.args.text.now c.in-Err-series.error)) fault)

pub returns-in-Err-series-clause-fault : goal.returns-in-Err-series-clause-fault
returns-in-Err-series-clause-fault c =
    rw (c.public.ensures, all_of_series c.args.text.now c.in_default.ensures.cases.1) (answers_error c.args.text.now (λ (v : List Edn). v) (series_at c.args.text.now) c.in-Err-series.error c.in-Err-series.ensures)
