use Rattle.std.proofs.Common.{ap, arith, subst}
use Rattle.std.specs.Prelude.{IsUtf8}
use Rattle.std.proofs.lemmas.Str.{IsUtf8-string_bytes}
use Rattle.ref_value.specs.Lawful.{IsLawful}
use Rattle.ref_edn.proofs.Strings.{string_read}
use Rattle.ref_edn.proofs.string_reader.string.Goals as goal

pub of_lawful-requires : goal.of_lawful-requires
of_lawful-requires c =
    let u = IsUtf8-string_bytes c.in-Ok.content in
    rw c.in_ok-node-in-Ok.ensures (record { parts = u; shallow = omega arith })

pub returns-in-Ok-clause-value : goal.returns-in-Ok-clause-value
returns-in-Ok-clause-value c =
    let u = IsUtf8-string_bytes c.in-Ok.content in
    let e = c.in_ok-node-in-Ok.ensures in
    let bytes = ap (λ v. v.items) c.in-Ok.ensures.ok in
    let read = c.in_ok-bytes.ensures.value in
    rw (c.of_lawful.ensures, e, bytes) (string_read c.args.text.now _ _ (rw c.after-inside.ensures at read) (subst IsUtf8 bytes u))

pub returns-in-Some-2-clause-value : goal.returns-in-Some-2-clause-value
returns-in-Some-2-clause-value c =
    let is = rw c.in-Some-2.is at c.in_ok-value.ensures.some in
    let lawful = rw c.in-Some-2.is at c.in_ok-value.ensures.lawful in
    let utf8 : IsUtf8 c.in-Some.content.now = (subst IsLawful is lawful).parts in
    let read = rw c.after-inside.ensures at c.in-Some.ensures.value in
    rw is (string_read c.args.text.now c.in-Some.content.now c.in-Some.rest.now read utf8)
