use Rattle.std.proofs.Common.{sym, ◌∙◌}
use Rattle.ref_value.proofs.NameParts.{name_with_slash}
use Rattle.ref_value.proofs.names.is_name.Goals as goal

pub returns-in-Some : goal.returns-in-Some
returns-in-Some c =
    let e = name_with_slash c.args.s.now c.in-Some.slash (sym c.is_part.ensures ∙ c.if-is_part.false) (sym c.first_slash.ensures ∙ c.in-Some.is) in
    let parts = rw c.behind.ensures at c.are_parts.ensures in
    parts ∙ sym e
