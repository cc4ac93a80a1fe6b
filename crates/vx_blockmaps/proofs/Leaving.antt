-- Pages of a file go.
use Rattle.std.proofs.Common.{◌≡◌, ◌≢◌, ℕ, ◌+◌, ◌≤◌, Bool, true, false, cond, List, [], ◌++◌, Option, Some, None, inl, inr, refl, sym, ◌∙◌, ap, subst, arith}
use Rattle.std.specs.Prelude.{nat_le}
use Rattle.std.proofs.lemmas.Bool.{cases_Bool, cases_lt, leb-true, le-leb, false_from_ne_true, true≢false}
use Rattle.std.proofs.lemmas.Option.{same_Some, none-some}
use Rattle.vx_base.specs.declared.kind.Kind.{Kind}
use Rattle.vx_extents.specs.Extents.{Mapped, mapped_at}
use Rattle.vx_alloc.specs.FreeMaps.{FreeMapView, place_of, is_in_set}
use Rattle.vx_filemaps.specs.Settles.{IsUsedPage, CanGo, without_pages}
use Rattle.vx_filemaps.specs.GiveLaws.{GiveLaws, AreUsedPages, block_gone, block_at}
use Rattle.vx_space.specs.Space.{Space, page_blocks, most_pages}
use Rattle.vx_space.specs.Leaving.{pages_but, cut_space, waiting_then}
use Rattle.vx_space.specs.Laws.{AreRising, IsPart, LeaveLaws}
use Rattle.vx_space.specs.Uses.{uses}
use Rattle.vx_model.specs.Images.{among}
use Rattle.vx_model.specs.Layout.{Layout, blocks_at, space_at, maps_at, block_numbers, owned}
use Rattle.vx_model.specs.LaidOut.{Owns, IsOnceUsed}
use Rattle.vx_model.proofs.Uses.{uses_append, not_among, is_among, among_uses}
use Rattle.vx_model.specs.Opened.{left_with}
use Rattle.vx_model.proofs.Changing.{changed, owned_here, elsewhere, owned_same}
use Rattle.vx_blockmaps.specs.BlockMaps.{IsFreeMapOf}
use Rattle.vx_blockmaps.proofs.Blocks.{owned_used, ready, sized}
use Rattle.vx_blockmaps.proofs.Fates.{Fate, IsLess, IsMoved, free_after}
use Rattle.vx_blockmaps.proofs.PageLists.{IsIn, part_block, there_most, page_used, two_pages, going, split}

pub same_among : (xs ys : List ℕ) (b : ℕ) → uses xs b ≡ uses ys b → among xs b ≡ among ys b
same_among xs ys b same = elim (cases_Bool (among xs b)) [
  | inl here ↦ (let some = among_uses xs b here in here ∙ sym (is_among ys b (omega (arith, some, same))))
  | inr gone ↦ (let none = not_among xs b gone in gone ∙ sym (false_from_ne_true _ (λ there. (let some = among_uses ys b there in absurd (omega (arith, none, some, same))))))
]

pub none_among : (xs : List ℕ) (b : ℕ) → uses xs b ≡ 0 → among xs b ≡ false
none_among xs b none = same_among xs [] b none

-- ---- the blocks of one inode

-- what the inode has at its pages and its map blocks, beside its directory blocks
pub owned_uses : (l : Layout) (n b : ℕ) → uses (owned l n) b ≡ uses (block_numbers (blocks_at l n)) b + (uses (page_blocks (space_at l n).present) b + uses (maps_at l n) b)
owned_uses l n b =
    let all = uses_append (block_numbers (blocks_at l n)) (page_blocks (space_at l n).present ++ maps_at l n) b in
    let rest = uses_append (page_blocks (space_at l n).present) (maps_at l n) b in
    omega (arith, all, rest)

pub page_owned : (l : Layout) (n p b : ℕ) → IsIn (space_at l n).present p b → Owns l n b
page_owned l n p b is =
    let some = page_used p b is.0 (space_at l n).present is.1 in
    let all = owned_uses l n b in
    is_among (owned l n) b (omega (arith, some, all))

pub map_owned : (l : Layout) (n b : ℕ) → 1 ≤ uses (maps_at l n) b → Owns l n b
map_owned l n b some = let all = owned_uses l n b in is_among (owned l n) b (omega (arith, some, all))

pub same_page : (l : Layout) (n p q b : ℕ) → IsOnceUsed l → IsIn (space_at l n).present p b → IsIn (space_at l n).present q b → p ≡ q
same_page l n p q b once first second = elim (cases_lt p q) [
  | inl lt ↦ absurd (twice (λ e. absurd (omega (arith, e, lt))))
  | inr le ↦ elim (cases_lt q p) [
    | inl lt ↦ absurd (twice (λ e. absurd (omega (arith, e, lt))))
    | inr same ↦ omega (arith, le, same)
  ]
]
  where
    twice : p ≢ q → ⊥
    twice ne =
        let two = two_pages p q b first.0 second.0 (space_at l n).present ne first.1 second.1 in
        let all = owned_uses l n b in
        let few = once.apart n b in
        absurd (omega (arith, two, all, few))

-- the layout where one inode has another space and other map blocks, and blocks wait
pub less_at : (l : Layout) (at : ℕ) (x : Space) (maps : List ℕ) (pending : ℕ → Option ℕ) → IsLess l (changed l at x maps pending) at
less_at l at x maps pending = record { units = refl; log = refl; others = λ n ne. owned_same l (changed l at x maps pending) n (elsewhere l at x maps pending n ne) }

-- ---- a file whose pages rise, those on the device among them

pub record HasPages (x : Space) : Type 0 where
  pub settled_rises : AreRising 0 x.settled
  pub present_rises : AreRising 0 x.present
  pub part : IsPart x.settled x.present

-- What goes by numbers, as the map of free blocks is left: the settled blocks wait, the held ones are free, and others stay.
pub record HasLeft (goes : ℕ → Bool) (x : Space) (place : ℕ) (old new : FreeMapView) : Type 0 where
  pub waits : (p b : ℕ) (kind : Kind) → goes p ≡ true → mapped_at x.settled p ≡ Some (b, kind) → place_of new b ≡ Some place
  pub frees : (p b : ℕ) (kind : Kind) → goes p ≡ true → mapped_at x.settled p ≡ None → mapped_at x.present p ≡ Some (b, kind) → is_in_set new b ≡ true
  pub others : (b : ℕ) → ((p : ℕ) → goes p ≡ true → IsIn x.present p b → ⊥) → (place_of new b ≡ place_of old b) × (is_in_set new b ≡ is_in_set old b)
  pub moved : IsMoved old new

module _ (laws : LeaveLaws) (l : Layout) (once : IsOnceUsed l) (at : ℕ) (has : HasPages (space_at l at)) (old new : FreeMapView) (is : IsFreeMapOf old l) (goes : ℕ → Bool) (place : ℕ)
    (left : HasLeft goes (space_at l at) place old new) (y : Space) (present : y.present ≡ pages_but goes (space_at l at).present) where
  abbrev x : Space
  x = space_at l at

  -- the same, with all pages there are now
  abbrev now : Space
  now = record x { settled = x.present }

  abbrev gone : List ℕ
  gone = waiting_then goes x

  abbrev k : Layout
  k = left_with l place at y (maps_at l at) gone

  now_uses : (b : ℕ) → uses (owned k at) b + uses (page_blocks (going goes x.present)) b ≡ uses (owned l at) b
  now_uses b =
      let here : uses (owned k at) b ≡ uses (block_numbers (blocks_at l at) ++ (page_blocks (pages_but goes x.present) ++ maps_at l at)) b =
      ap (λ (bs : List ℕ). uses bs b) (owned_here l at y (maps_at l at) k.pending) ∙ ap (λ (ms : List Mapped). uses (block_numbers (blocks_at l at) ++ (page_blocks ms ++ maps_at l at)) b) present in
      let parts = uses_append (block_numbers (blocks_at l at)) (page_blocks (pages_but goes x.present) ++ maps_at l at) b in
      let rest = uses_append (page_blocks (pages_but goes x.present)) (maps_at l at) b in
      let all = split goes b x.present in
      let was = owned_uses l at b in
      omega (arith, here, parts, rest, all, was)

  -- a page goes that is not on the device
  module _ (b : ℕ) (miss : among gone b ≡ false) where
    pending_stays : k.pending b ≡ l.pending b
    pending_stays = ap (λ t. cond t (Some place) (l.pending b)) miss

    not_settled : (p : ℕ) → goes p ≡ true → IsIn x.present p b → (o : Option (ℕ × Kind)) → mapped_at x.settled p ≡ o → mapped_at x.settled p ≡ None
    not_settled p passes there None is = is
    not_settled p passes there (Some m) is =
        let now_there = part_block 0 p m.0 m.1 x.settled x.present has.present_rises has.part is in
        let same : m.0 ≡ b = ap (λ (y : ℕ × Kind). y.0) (same_Some (m.0, now_there.0) (b, there.0) (sym now_there.1 ∙ there.1)) in
        let some : 1 ≤ uses gone m.0 = laws.listed goes x p m.0 m.1 passes is in
        absurd (true≢false (sym (is_among gone b (subst (λ (c : ℕ). 1 ≤ uses gone c) same some)) ∙ miss))

    held_fate : (t : Bool) → among (waiting_then goes now) b ≡ t → Fate l k old new at place b
    held_fate true hit =
        let some = among_uses (waiting_then goes now) b hit in
        let found = laws.only goes now b has.present_rises some in
        let there : IsIn x.present found.page b = (found.kind, found.there) in
        let had = page_owned l at found.page b there in
        let all = now_uses b in
        let few = once.apart at b in
        inr (inl (record {
          had = had;
          gone = none_among (owned k at) b (omega (arith, some, all, few));
          pending = pending_stays;
          frees = left.frees found.page b found.kind found.passes (not_settled found.page found.passes there (mapped_at x.settled found.page) refl) found.there;
        }))
    held_fate false other =
        let none = not_among (waiting_then goes now) b other in
        let all = now_uses b in
        let stays = left.others b (λ p passes there. (let some : 1 ≤ uses (waiting_then goes now) b = laws.listed goes now p b there.0 passes there.1 in absurd (omega (arith, some, none)))) in
        inr (inr (record {
          same = same_among (owned k at) (owned l at) b (omega (arith, all, none));
          pending = pending_stays;
          place = stays.0;
          bit = stays.1;
        }))

  page_fate : (b : ℕ) (t : Bool) → among gone b ≡ t → Fate l k old new at place b
  page_fate b true hit =
      let found = laws.only goes x b has.settled_rises (among_uses gone b hit) in
      inl (record { pending = ap (λ t. cond t (Some place) (l.pending b)) hit; waits = left.waits found.page b found.kind found.passes found.there })
  page_fate b false miss = held_fate b miss (among (waiting_then goes now) b) refl

  pub pages_left : IsFreeMapOf new k
  pages_left = free_after l k old new once is (ready old l is) at place (less_at l at y (maps_at l at) k.pending) left.moved (λ b. page_fate b (among gone b) refl)

-- ---- all pages from one on

-- a page that has a block, on the device or held, has it now
pub now_in : (x : Space) → HasPages x → (p b : ℕ) → block_at (mapped_at x.settled) (mapped_at x.present) p ≡ Some b → IsIn x.present p b
now_in x has p b is = by (mapped_at x.settled p) (mapped_at x.present p) refl refl is
  where
    by : (o q : Option (ℕ × Kind)) → mapped_at x.settled p ≡ o → mapped_at x.present p ≡ q → block_gone o q ≡ Some b → IsIn x.present p b
    by (Some m) q so sq h = part_block 0 p b m.1 x.settled x.present has.present_rises has.part (so ∙ ap (λ (c : ℕ). Some (c, m.1)) (same_Some m.0 b h))
    by None (Some m) so sq h = (m.1, sq ∙ ap (λ (c : ℕ). Some (c, m.1)) (same_Some m.0 b h))
    by None None so sq h = absurd (none-some b h)

module _ (give : GiveLaws) (l : Layout) (once : IsOnceUsed l) (at : ℕ) (has : HasPages (space_at l at)) (v : FreeMapView) (is : IsFreeMapOf v l) (from n place : ℕ) (all : from + n ≡ most_pages) where
  abbrev s : ℕ → Option (ℕ × Kind)
  s = mapped_at (space_at l at).settled

  abbrev t : ℕ → Option (ℕ × Kind)
  t = mapped_at (space_at l at).present

  abbrev after : FreeMapView
  after = without_pages place s t n from v

  used_by : (o q : Option (ℕ × Kind)) → ((b : ℕ) → block_gone o q ≡ Some b → Owns l at b) → IsUsedPage o q v
  used_by (Some m) q owns = owned_used v l is once at m.0 (owns m.0 refl)
  used_by None (Some m) owns = owned_used v l is once at m.0 (owns m.0 refl)
  used_by None None owns = tt

  are_used : AreUsedPages s t from n v
  are_used = record {
    used = λ p low high. used_by (s p) (t p) (λ b here. page_owned l at p b (now_in (space_at l at) has p b here));
    apart = λ p q b lp hp lq hq first second. same_page l at p q b once (now_in (space_at l at) has p b first) (now_in (space_at l at) has q b second);
  }

  pub can_cut : CanGo place s t n from v
  can_cut = give.can_go place s t from n v (sized v l is) are_used

  left : HasLeft (nat_le from) (space_at l at) place v after
  left =
      let gone = give.go place s t from n v (sized v l is) are_used in
      record {
        waits = λ p b kind passes there.
            let now = part_block 0 p b kind (space_at l at).settled (space_at l at).present has.present_rises has.part there in
            let high = there_most 0 p (space_at l at).present (b, now.0) has.present_rises now.1 in
            gone.waits p b kind (leb-true from p passes) (omega (arith, high, all)) there;
        frees = λ p b kind passes none there.
            let high = there_most 0 p (space_at l at).present (b, kind) has.present_rises there in
            gone.frees p b kind (leb-true from p passes) (omega (arith, high, all)) none there;
        others = λ b not. gone.others b (λ p low high here. not p (le-leb from p low) (now_in (space_at l at) has p b here));
        moved = record { rest = gone.rest; sized = gone.sized; ready = gone.ready };
      }

  pub cut_free : LeaveLaws → (size : ℕ) → IsFreeMapOf after (left_with l place at (cut_space from size (space_at l at)) (maps_at l at) (waiting_then (nat_le from) (space_at l at)))
  cut_free leave size = pages_left leave l once at has v after is (nat_le from) place left (cut_space from size (space_at l at)) refl
