use Rattle.std.proofs.Common.{ap, [], ◌∷◌, ◌++◌, ◌∙◌}
use Rattle.std.proofs.lemmas.Result.{IfOk-weaker}
use Rattle.serde_json.specs.Written.{compact_text}
use Rattle.lfs_auditing.specs.Json.{report_data}
use Rattle.lfs_auditing.specs.declared.json.Parts.{Parts}
use Rattle.lfs_auditing.proofs.JsonLemmas.{users_plain}
use Rattle.lfs_auditing.proofs.audit.Audit.tell_json.Goals as goal

pub text_of-requires : goal.text_of-requires
text_of-requires c = record {
  stopped = c.in_ok-stopped.ensures.plain;
  users = users_plain c.args.self.now.users.counts.entries c.in_ok-users.users c.in_ok-users.ensures;
  changed = c.in_ok-changed.ensures;
  read = c.in_ok-read.ensures;
  who = c.in_ok-who.ensures;
}

pub returns : goal.returns
returns c =
    let parts : Parts = record {
      stopped = c.in_ok-stopped.stopped;
      users = c.in_ok-users.users;
      changed = c.in_ok-changed.changed;
      read = c.in_ok-read.read;
      who = c.in_ok-who.who;
    } in
    IfOk-weaker c.text_of.result _ _
    (λ text is. record {
      parts = parts;
      told = is ∙ ap (λ b. compact_text (report_data b c.args.self.now.entries parts) ++ 10 ∷ []) c.is_legal.ensures;
      stopped = c.in_ok-stopped.ensures.stopped;
      users = c.in_ok-users.ensures;
    })
    c.text_of.ensures
