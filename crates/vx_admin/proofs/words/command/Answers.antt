use Rattle.std.proofs.Common.{rules, ap₂, codes, ◌≡◌, ◌∙◌}
use Rattle.std.proofs.lemmas.Result.{IfOk-weaker}
use Rattle.clap.specs.Words.{app_of, rule_of, with_rule}
use Rattle.vx_admin.specs.Words.{word_rule, option_rule, bare}
use Rattle.vx_admin.proofs.words.command.Goals as goal

pub returns : goal.returns
returns c =
    let verb_is : rule_of c.action-verb.result ≡ word_rule (codes "verb") = search rules in
    let image_is : rule_of c.action-image.result ≡ word_rule (codes "image") = search rules in
    let units_is : rule_of c.action-units.result ≡ option_rule (codes "units") = search rules in
    let log_is : rule_of c.action-log.result ≡ option_rule (codes "log") = search rules in
    let start_is : app_of c.no_binary_name.result ≡ bare = search rules in
    let one : app_of c.in_ok-arg.field-0 ≡ with_rule bare (word_rule (codes "verb")) = c.in_ok-arg.ensures.shape (search rules) ∙ ap₂ with_rule start_is verb_is in
    let two : app_of c.in_ok-arg-2.field-0 ≡ with_rule (with_rule bare (word_rule (codes "verb"))) (word_rule (codes "image")) = c.in_ok-arg-2.ensures.shape (search rules) ∙ ap₂ with_rule one image_is in
    let three : app_of c.in_ok-arg-3.field-0 ≡ with_rule (with_rule (with_rule bare (word_rule (codes "verb"))) (word_rule (codes "image"))) (option_rule (codes "units")) = c.in_ok-arg-3.ensures.shape (search rules) ∙ ap₂ with_rule two units_is in
    IfOk-weaker c.arg-4.result _ _ (λ r h. h.shape (search rules) ∙ ap₂ with_rule three log_is) c.arg-4.ensures
