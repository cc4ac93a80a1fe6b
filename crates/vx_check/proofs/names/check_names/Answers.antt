use Rattle.std.proofs.Common.{rules, ◌≡◌, ◌<◌, true, false, not, length, take, get_or, sym, ◌∙◌, arith}
use Rattle.std.proofs.lemmas.Grind.{common_steps}
use Rattle.std.proofs.lemmas.List.{get_or_default}
use Rattle.vx_sound.specs.Facts.{is_legal}
use Rattle.vx_check.specs.Directories.{has}
use Rattle.vx_check.proofs.NameLists.{named_none, named_more, named_wrong, named_all}
use Rattle.vx_check.proofs.names.check_names.Goals as goal

pub loop-entry-init : goal.loop-entry-init
loop-entry-init c = named_none c.args.names.now c.args.entries.now

pub returns-then-not-is_legal-clause-wrong : goal.returns-then-not-is_legal-clause-wrong
returns-then-not-is_legal-clause-wrong c = λ before h _ all.
    let e = c.entry-item.result in
    let lt : c.loop-entry.entry-index < length c.args.entries.now = omega arith in
    let is : get_or c.args.entries.now c.loop-entry.entry-index e ≡ e = first_of (search (rules, get_or_default), grind (arith, common_steps, get_or_default)) in
    let not_legal : is_legal e.name ≡ false = first_of (search rules, grind (arith, common_steps)) in
    named_wrong c.args.names.now c.loop-entry.names c.args.entries.now c.loop-entry.entry-index e e lt is (λ legal. let bad : true ≡ false = sym legal ∙ not_legal in absurd (cc)) c.loop-entry.invariant before h all

pub returns-then-not-new-clause-wrong : goal.returns-then-not-new-clause-wrong
returns-then-not-new-clause-wrong c = λ before h _ all.
    let e = c.entry-item.result in
    let lt : c.loop-entry.entry-index < length c.args.entries.now = omega arith in
    let is : get_or c.args.entries.now c.loop-entry.entry-index e ≡ e = first_of (search (rules, get_or_default), grind (arith, common_steps, get_or_default)) in
    let old : false ≡ not (has c.loop-entry.names e.name) = first_of (cc, search rules, grind (arith, common_steps)) in
    named_wrong c.args.names.now c.loop-entry.names c.args.entries.now c.loop-entry.entry-index e e lt is (λ legal. old) c.loop-entry.invariant before h all

pub loop-entry-preserved : goal.loop-entry-preserved
loop-entry-preserved c =
    let e = c.entry-item.result in
    let lt : c.loop-entry.entry-index < length c.args.entries.now = omega arith in
    let is : get_or c.args.entries.now c.loop-entry.entry-index e ≡ e = first_of (search (rules, get_or_default), grind (arith, common_steps, get_or_default)) in
    let legal : is_legal e.name ≡ true = first_of (search rules, grind (arith, common_steps)) in
    let new : true ≡ not (has c.loop-entry.names e.name) = first_of (cc, search rules, grind (arith, common_steps)) in
    named_more c.args.names.now c.loop-entry.names c.add.new.self c.args.entries.now c.loop-entry.entry-index e e lt is legal new c.in_ok-new.ensures.has c.loop-entry.invariant

pub returns-clause-right : goal.returns-clause-right
returns-clause-right c = λ before h _.
    let all : take c.loop-entry.entry-index c.args.entries.now ≡ c.args.entries.now = first_of (search rules, grind (arith, common_steps)) in
    named_all c.args.names.now c.loop-entry.names c.args.entries.now c.loop-entry.entry-index all c.loop-entry.invariant before h
