use Rattle.std.proofs.Common.{◌≡◌, sym, ap, subst, ◌∙◌, List, ℕ}
use Rattle.std.specs.Option.{option_copied}
use Rattle.vx_filemaps.specs.Files.{FileView}
use Rattle.vx_filemaps.specs.Settles.{CanWait, pended}
use Rattle.vx_space.specs.Space.{page_blocks}
use Rattle.vx_txn.specs.Edits.{all_blocks}
use Rattle.vx_txn.proofs.Paged.{can_wait_first, can_wait_second, pended_append}
use Rattle.vx_txn.proofs.edits.pend_blocks.Goals as goal

pub pend_pages-requires-clause-used : goal.pend_pages-requires-clause-used
pend_pages-requires-clause-used c =
    let d = c.in-Some.directory.now in
    can_wait_first c.args.place (page_blocks d.maps.space.present) d.maps.maps c.args.free.now (subst (λ o. CanWait c.args.place (all_blocks (option_copied o)) c.args.free.now) c.in-Some.is c.requires.used)

pub pend_chain-requires : goal.pend_chain-requires
pend_chain-requires c =
    let d = c.in-Some.directory.now in
    let chain : c.chain.result.now ≡ d.maps.maps = c.chain.ensures ∙ ap (λ (m : FileView). m.maps) c.maps.ensures in
    record {
      used = subst (λ (xs : List ℕ). CanWait c.args.place xs c.pend_pages.new.free) (sym chain)
          (subst (CanWait c.args.place d.maps.maps) (sym c.pend_pages.ensures)
          (can_wait_second c.args.place (page_blocks d.maps.space.present) d.maps.maps c.args.free.now (subst (λ o. CanWait c.args.place (all_blocks (option_copied o)) c.args.free.now) c.in-Some.is c.requires.used)));
    }

pub returns-in-Some : goal.returns-in-Some
returns-in-Some c =
    let d = c.in-Some.directory.now in
    let chain : c.chain.result.now ≡ d.maps.maps = c.chain.ensures ∙ ap (λ (m : FileView). m.maps) c.maps.ensures in
    c.pend_chain.ensures ∙ (λ i. pended c.args.place (chain i) (c.pend_pages.ensures i))
    ∙ sym (pended_append c.args.place (page_blocks d.maps.space.present) d.maps.maps c.args.free.now)
    ∙ sym (ap (λ o. pended c.args.place (all_blocks (option_copied o)) c.args.free.now) c.in-Some.is)
