use Rattle.std.proofs.Common.{ℕ, List, map, refl, sym, ◌∙◌, subst}
use Rattle.std.specs.String.{string_bytes}
use Rattle.vx_grammar.specs.Scripts.{IsScriptIn, IsRefusedFor}
use Rattle.vx_script.specs.declared.start.StartRefusal.{StartRefusal}
use Rattle.vx_run.specs.Ends.{Setting, IsUnasked}
use Rattle.vx_run.proofs.Scripts.{asks_of, unasked_of, unasked_words}
use Rattle.vx_run.proofs.top.asked.Goals as goal

pub returns-in-Err-clause-refused : goal.returns-in-Err-clause-refused
returns-in-Err-clause-refused g c = λ device.
    let s : Setting = record { words = map string_bytes c.args.words.now; script = g.S.Source.left c.args.script.now; device = device; script_faults = g.S.Source.fault_count c.args.script.now } in
    unasked_words s (g.S.Source.fault_count c.args.script.now) (map string_bytes c.args.words.now) c.in-Err.why refl (sym c.read_words.ensures ∙ c.in-Err.is)

pub returns-in-Ok-parse-clause-asks : goal.returns-in-Ok-parse-clause-asks
returns-in-Ok-parse-clause-asks g c = λ device.
    asks_of _ c.in-Ok.asked c.in-Ok-read_all.bytes.items c.in-Ok-parse.read (sym c.read_words.ensures ∙ c.in-Ok.is) c.in-Ok-read_all.ensures.bytes
    (subst (λ (b : List ℕ). IsScriptIn b c.in-Ok-parse.read) c.deref.ensures.value c.in-Ok-parse.ensures.ok)

pub returns-clause-refused : goal.returns-clause-refused
returns-clause-refused g c = λ device.
    let s : Setting = record { words = map string_bytes c.args.words.now; script = g.S.Source.left c.args.script.now; device = device; script_faults = g.S.Source.fault_count c.args.script.now } in
    let bytes = c.in-Ok-read_all.bytes.items in
    let why = c.in-Err-parse.why in
    subst (λ (w : StartRefusal). IsUnasked s (g.S.Source.fault_count c.read_all.new.source) w) (sym c.from.ensures)
    (unasked_of s c.in-Ok.asked (g.S.Source.fault_count c.read_all.new.source) bytes why (sym c.read_words.ensures ∙ c.in-Ok.is) c.in-Ok-read_all.ensures.bytes
    (subst (λ (b : List ℕ). IsRefusedFor b why) c.deref.ensures.value c.in-Err-parse.ensures.err))
