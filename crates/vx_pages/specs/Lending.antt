-- What a cache is once the bytes that it lent are given back.
use Rattle.std.specs.Prelude.{◌≡◌, ⊤}
use Rattle.std.specs.Borrow.{follows_so, MutBor, Fml}
use mathlib.Core.Option.{none}
use Rattle.vx_pages.specs.Pages.{Pages}
use Rattle.vx_pages.specs.contracts.page_cache.PageCache.{the_row}

abbrev pub EndsAs : MutBor Pages → Pages → Fml
EndsAs s new = follows_so the_row the_row s.ghost_name none (λ _ _. ⊤) (λ last. last ≡ new)
