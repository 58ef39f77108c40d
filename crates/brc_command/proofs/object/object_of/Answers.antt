use Rattle.std.proofs.Common.{rules, string_bytes}
use Rattle.serde_json.specs.declared.value.Value.{the_lemmas}
use Rattle.serde_json.proofs.OnLiterals.{serde_json_on_literals}
use Rattle.brc_command.proofs.object.object_of.Goals as goal

pub returns : goal.returns
unfolding serde_json_on_literals
returns c = (string_bytes c.in_ok-message.message, search (rules, the_lemmas))
