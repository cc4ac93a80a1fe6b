use Rattle.std.proofs.Common.{ℕ, List, Option, refl, ap, ◌∙◌}
use Rattle.std.specs.Prelude.{option_map}
use Rattle.vx_pages.specs.Pages.{Entry, Pages, find}
use Rattle.vx_pages.proofs.Listed.{find_front}
use Rattle.vx_pages.proofs.page_cache.PageCache.get.Goals as goal

abbrev bytes_of : ℕ → ℕ → List Entry → Option (List ℕ)
bytes_of ino p es = option_map (λ (e : Entry). e.bytes) (find ino p es)

pub returns : goal.returns
returns c = (
  (refl, λ _. tt, c.promote.ensures.front),
  record {
    front = tt;
    bytes =
        c.peek.ensures.bytes ∙ ap (λ (v : Pages). bytes_of c.args.ino c.args.p v.entries) c.promote.ensures.front
        ∙ ap (option_map (λ (e : Entry). e.bytes)) (find_front c.args.ino c.args.p c.args.self.now.entries);
    size = rw (← ap (λ (v : Pages). v.block) c.promote.ensures.front) c.peek.ensures.size;
  },
)
