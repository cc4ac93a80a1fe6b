use Rattle.std.proofs.Common.{◌≡◌, sym, ap, ◌∙◌, arith}
use Rattle.std.specs.FinMap as map
use Rattle.slab.specs.Slab.{slab_len}
use Rattle.vx_handles.specs.OpenHandles.{Key, OpenHandles}
use Rattle.vx_handles.specs.declared.handles.Entry.{Entry}
use Rattle.vx_handles.proofs.Kept.{kept_more, opened_more}
use Rattle.vx_handles.proofs.Found.{absent_key, known_key, no_slot, answers_bad, answers_full, answers_fine}
use Rattle.vx_handles.proofs.handles.Handles.add.Goals as goal

pub returns-then-is_some-clause-answer : goal.returns-then-is_some-clause-answer
returns-then-is_some-clause-answer c =
    sym (answers_bad c.args.self.now (c.args.session, c.args.handle)
    (known_key c.self.inside.entries.slots (c.args.session, c.args.handle) c.args.self.now c.self.view_is c.place_of.result c.self.invariant.apart c.place_of.ensures.found (sym c.is_some.ensures ∙ c.if-is_some.true)))

pub returns-then-len-ge-MAX_OPEN-clause-answer : goal.returns-then-len-ge-MAX_OPEN-clause-answer
returns-then-len-ge-MAX_OPEN-clause-answer c =
    let slots = c.self.inside.entries.slots in
    let key : Key = (c.args.session, c.args.handle) in
    let absent = no_slot slots key c.place_of.result c.place_of.ensures.absent (sym c.is_some.ensures ∙ c.if-is_some.false) in
    let full : slab_len c.self.inside.entries ≡ 256 = omega (arith, c.self.invariant.few, c.len.ensures, c.if-len-ge-MAX_OPEN.true) in
    sym (answers_full c.args.self.now key (absent_key slots key c.args.self.now c.self.view_is absent)
    (ap (λ (m : OpenHandles). map.len m) (sym c.self.view_is) ∙ sym c.self.invariant.counted ∙ full))

pub invariant_of-self : goal.invariant_of-self
invariant_of-self c =
    let entry : Entry = record { session = c.args.session; handle = c.args.handle; ino = c.args.ino; flag = c.args.flag } in
    let absent = no_slot c.self.inside.entries.slots (c.args.session, c.args.handle) c.place_of.result c.place_of.ensures.absent (sym c.is_some.ensures ∙ c.if-is_some.false) in
    kept_more c.self.inside.entries c.insert_reserved.new.self c.insert_reserved.result entry c.insert_reserved.ensures.capacity c.insert_reserved.ensures.len
    c.self.invariant (omega (arith, c.len.ensures, c.if-len-ge-MAX_OPEN.false)) absent c.insert_reserved.ensures.was_vacant c.insert_reserved.ensures.updates

pub returns-clause-answer : goal.returns-clause-answer
returns-clause-answer c =
    let slots = c.self.inside.entries.slots in
    let key : Key = (c.args.session, c.args.handle) in
    let absent = no_slot slots key c.place_of.result c.place_of.ensures.absent (sym c.is_some.ensures ∙ c.if-is_some.false) in
    let same : map.len c.args.self.now ≡ slab_len c.self.inside.entries = ap (λ (m : OpenHandles). map.len m) (sym c.self.view_is) ∙ sym c.self.invariant.counted in
    sym (answers_fine c.args.self.now key (absent_key slots key c.args.self.now c.self.view_is absent) (omega (arith, same, c.len.ensures, c.if-len-ge-MAX_OPEN.false)))

pub returns-clause-added : goal.returns-clause-added
returns-clause-added c =
    let entry : Entry = record { session = c.args.session; handle = c.args.handle; ino = c.args.ino; flag = c.args.flag } in
    let absent = no_slot c.self.inside.entries.slots (c.args.session, c.args.handle) c.place_of.result c.place_of.ensures.absent (sym c.is_some.ensures ∙ c.if-is_some.false) in
    opened_more c.self.inside.entries c.insert_reserved.new.self c.insert_reserved.result entry c.insert_reserved.ensures.capacity c.insert_reserved.ensures.len
    c.self.invariant (omega (arith, c.len.ensures, c.if-len-ge-MAX_OPEN.false)) absent c.insert_reserved.ensures.was_vacant c.insert_reserved.ensures.updates
    ∙ ap (λ (m : OpenHandles). map.insert m (c.args.session, c.args.handle) (c.args.ino, c.args.flag)) c.self.view_is
