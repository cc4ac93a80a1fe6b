use Rattle.std.proofs.Common.{sym}
use Rattle.vx_pages.proofs.Leaving.{page_freed, tied_freed, kept_freed}
use Rattle.vx_pages.proofs.page_cache.free_page.Goals as goal

pub returns-in-Some-peek_mut-clause-dropped : goal.returns-in-Some-peek_mut-clause-dropped
returns-in-Some-peek_mut-clause-dropped c =
    page_freed c.args.ino c.args.page c.in-Some.number c.args.index.now c.remove.new.self c.args.slots.now.entries c.in-Some-peek_mut.slot.now c.free.new.self c.in-Some.ensures.slot c.requires.tied c.len-count.ensures.valid.0 c.in-Some.ensures.left
    (sym c.in-Some-peek_mut.ensures.value) c.free.ensures

pub returns-in-Some-peek_mut-clause-tied : goal.returns-in-Some-peek_mut-clause-tied
returns-in-Some-peek_mut-clause-tied c =
    tied_freed c.args.ino c.args.page c.in-Some.number c.args.index.now c.remove.new.self c.args.slots.now.entries c.in-Some-peek_mut.slot.now c.free.new.self c.in-Some.ensures.slot c.requires.tied c.len-count.ensures.valid.0 c.in-Some.ensures.left
    (sym c.in-Some-peek_mut.ensures.value) c.free.ensures

pub returns-in-Some-peek_mut-clause-kept : goal.returns-in-Some-peek_mut-clause-kept
returns-in-Some-peek_mut-clause-kept c =
    kept_freed c.args.ino c.args.page c.in-Some.number c.args.index.now c.remove.new.self c.args.slots.now.entries c.in-Some-peek_mut.slot.now c.free.new.self c.in-Some.ensures.slot c.requires.tied c.len-count.ensures.valid.0 c.in-Some.ensures.left
    (sym c.in-Some-peek_mut.ensures.value) c.free.ensures c.in-Some.ensures.count
