use Rattle.std.proofs.Common.{◌≡◌, List, Ok, Err, OnOk, IfErr, sym, ap, ◌∙◌, subst, arith}
use Rattle.vx_base.specs.declared.refusal.Refusal.TheVariants as no
use Rattle.vx_extents.specs.Extents.{Mapped, ExtentMapView}
use Rattle.vx_space.specs.Outcome.{Maybe, ◌>>=◌}
use Rattle.vx_space.specs.Placing.{Filling, write_page, each_page, place_chain, place_fill}
use Rattle.vx_filemaps.specs.FileMaps.{filling_in, IsRefusal}
use Rattle.vx_filemaps.proofs.Pages.{for_later, missing_most}
use Rattle.vx_filemaps.proofs.place.place_reserved.Goals as goal

pub place_chain-requires-clause-need : goal.place_chain-requires-clause-need
place_chain-requires-clause-need c = omega (arith, c.missing-need.ensures, missing_most c.args.present.now.pages c.args.n c.args.from)

pub returns-in-Placed-clause-done : goal.returns-in-Placed-clause-done
returns-in-Placed-clause-done c = λ r x is settled.
    let pages : c.set_from.new.self.pages ≡ c.args.present.now.pages = ap (λ (v : ExtentMapView). v.pages) c.set_from.ensures in
    let path : place_fill r x c.args.from c.args.n (filling_in c.args.free.now c.args.present.now.pages c.args.chain.now.items) ≡ place_chain r x (filling_in c.write_pages.new.free c.write_pages.new.pages.pages c.args.chain.now.items) =
    ap (λ (m : Maybe Filling). m >>= place_chain r x)
    (ap (λ (ms : List Mapped). each_page (write_page r) c.args.n c.args.from (filling_in c.args.free.now ms c.args.chain.now.items)) (sym pages) ∙ c.write_pages.ensures.placed r c.args.chain.now.items is.is_for c.in-Placed.is) in
    subst (λ (m : Maybe Filling). OnOk c.place_chain.result (m ≡ Ok (filling_in c.place_chain.new.free c.write_pages.new.pages.pages c.place_chain.new.chain.items))) (sym path)
    (c.place_chain.ensures.done r x (for_later r c.args.free.now c.write_pages.new.free c.args.first c.write_pages.ensures.volume is.is_for).volume settled)

pub returns-in-Placed-clause-refused : goal.returns-in-Placed-clause-refused
returns-in-Placed-clause-refused c = λ r x is settled.
    let pages : c.set_from.new.self.pages ≡ c.args.present.now.pages = ap (λ (v : ExtentMapView). v.pages) c.set_from.ensures in
    let path : place_fill r x c.args.from c.args.n (filling_in c.args.free.now c.args.present.now.pages c.args.chain.now.items) ≡ place_chain r x (filling_in c.write_pages.new.free c.write_pages.new.pages.pages c.args.chain.now.items) =
    ap (λ (m : Maybe Filling). m >>= place_chain r x)
    (ap (λ (ms : List Mapped). each_page (write_page r) c.args.n c.args.from (filling_in c.args.free.now ms c.args.chain.now.items)) (sym pages) ∙ c.write_pages.ensures.placed r c.args.chain.now.items is.is_for c.in-Placed.is) in
    subst (λ (m : Maybe Filling). IfErr c.place_chain.result (IsRefusal m)) (sym path)
    (c.place_chain.ensures.refused r x (for_later r c.args.free.now c.write_pages.new.free c.args.first c.write_pages.ensures.volume is.is_for).volume settled (is.need ∙ sym c.missing-need.ensures) (is.count ∙ sym c.free-before.ensures))

pub returns-in-NothingFree-clause-refused : goal.returns-in-NothingFree-clause-refused
returns-in-NothingFree-clause-refused c = λ r x is settled.
    let pages : c.set_from.new.self.pages ≡ c.args.present.now.pages = ap (λ (v : ExtentMapView). v.pages) c.set_from.ensures in
    let need : r.need ≡ c.missing-need.result = is.need ∙ sym c.missing-need.ensures in
    let count : r.free ≡ c.free-before.result = is.count ∙ sym c.free-before.ensures in
    ap (λ (m : Maybe Filling). m >>= place_chain r x)
    (ap (λ (ms : List Mapped). each_page (write_page r) c.args.n c.args.from (filling_in c.args.free.now ms c.args.chain.now.items)) (sym pages) ∙ c.write_pages.ensures.full r c.args.chain.now.items is.is_for c.in-NothingFree.is)
    ∙ (λ i. Err (no.NoSpace (need i) (count i)))
