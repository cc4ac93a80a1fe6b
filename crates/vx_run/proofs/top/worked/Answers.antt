use Rattle.std.proofs.Common.{map, refl, subst}
use Rattle.std.specs.String.{string_bytes}
use Rattle.vx_run.specs.Ends.{Setting, Asks}
use Rattle.vx_run.specs.declared.words.Verb.{Verb}
use Rattle.vx_run.proofs.Scripts.{ended_unasked}
use Rattle.vx_run.proofs.top.worked.Goals as goal

pub returns-in-Err-clause-ended : goal.returns-in-Err-clause-ended
returns-in-Err-clause-ended g c =
    let d = g.D.BlockDev.state c.args.dev in
    let s : Setting = record { words = map string_bytes c.args.words.now; script = g.S.Source.left c.args.script.now; device = d; script_faults = g.S.Source.fault_count c.args.script.now } in
    ended_unasked s d (g.S.Source.fault_count c.asked.new.script) c.in-Err.why (c.in-Err.ensures.refused d) refl

pub run_on_new-requires : goal.run_on_new-requires
run_on_new-requires g c = let asks = c.in-Ok.ensures.asks (g.D.BlockDev.state c.args.dev) in record { form = asks.form }

pub run_on_image-requires-clause-form : goal.run_on_image-requires-clause-form
run_on_image-requires-clause-form g c = let asks = c.in-Ok.ensures.asks (g.D.BlockDev.state c.args.dev) in asks.form

pub run_on_image-requires-clause-certain : goal.run_on_image-requires-clause-certain
run_on_image-requires-clause-certain g c =
    let d = g.D.BlockDev.state c.args.dev in
    let s : Setting = record { words = map string_bytes c.args.words.now; script = g.S.Source.left c.args.script.now; device = d; script_faults = g.S.Source.fault_count c.args.script.now } in
    let asked = c.in-Ok.read.0 in
    let asks = subst (λ (v : Verb). Asks s (record { verb = v; logging = asked.logging }) c.in-Ok.read.1) c.in-Mount.is (c.in-Ok.ensures.asks d) in
    c.requires.certain (asked.logging, asks.words)

pub returns-in-Fresh-clause-ended : goal.returns-in-Fresh-clause-ended
returns-in-Fresh-clause-ended g c =
    let d = g.D.BlockDev.state c.args.dev in
    let s : Setting = record { words = map string_bytes c.args.words.now; script = g.S.Source.left c.args.script.now; device = d; script_faults = g.S.Source.fault_count c.args.script.now } in
    let asked = c.in-Ok.read.0 in
    c.run_on_new.ensures.ended s (g.S.Source.fault_count c.asked.new.script) refl (subst (λ (v : Verb). Asks s (record { verb = v; logging = asked.logging }) c.in-Ok.read.1) c.in-Fresh.is (c.in-Ok.ensures.asks d))

pub returns-in-Mount-clause-ended : goal.returns-in-Mount-clause-ended
returns-in-Mount-clause-ended g c =
    let d = g.D.BlockDev.state c.args.dev in
    let s : Setting = record { words = map string_bytes c.args.words.now; script = g.S.Source.left c.args.script.now; device = d; script_faults = g.S.Source.fault_count c.args.script.now } in
    let asked = c.in-Ok.read.0 in
    c.run_on_image.ensures.ended s (g.S.Source.fault_count c.asked.new.script) refl (subst (λ (v : Verb). Asks s (record { verb = v; logging = asked.logging }) c.in-Ok.read.1) c.in-Mount.is (c.in-Ok.ensures.asks d))
