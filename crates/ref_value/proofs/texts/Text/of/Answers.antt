use Rattle.std.proofs.lemmas.Str.{IsUtf8-string_bytes}
use Rattle.ref_value.proofs.texts.Text.of.Goals as goal

pub owner-requires : goal.owner-requires
owner-requires c = IsUtf8-string_bytes c.args.text
