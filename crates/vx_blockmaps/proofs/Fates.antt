-- The map of free blocks after a file gave blocks up, by what becomes of each block.
use Rattle.std.proofs.Common.{◌≡◌, ◌≢◌, ◌⊎◌, ℕ, ◌+◌, ◌*◌, true, false, not, ◌&&◌, Option, Some, None, inl, inr, sym, ◌∙◌, ap, subst}
use Rattle.std.specs.Prelude.{is_none}
use Rattle.std.proofs.lemmas.Bool.{cases_eq, and_from, and_right, false_from_ne_true}
use Rattle.std.proofs.lemmas.Option.{none-some}
use Rattle.vx_layout.specs.Places.{Volume, is_data}
use Rattle.vx_alloc.specs.FreeMaps.{FreeMapView, is_data as is_data_block, is_free as is_free_block, is_in_set, is_barred, is_at_or_past, unit_of, place_of}
use Rattle.vx_filemaps.specs.FileMaps.{IsReady}
use Rattle.vx_filemaps.specs.GiveLaws.{IsSized}
use Rattle.vx_model.specs.Images.{among}
use Rattle.vx_model.specs.Layout.{Layout, volume, owned, is_free}
use Rattle.vx_model.specs.LaidOut.{Owns, IsOnceUsed}
use Rattle.vx_blockmaps.specs.BlockMaps.{IsFreeMapOf}
use Rattle.vx_blockmaps.proofs.Blocks.{free_is, none_owned, same_free, data_is}

-- the block waits now, for this place
pub record IsWaiting (k : Layout) (new : FreeMapView) (place b : ℕ) : Type 0 where
  pub pending : k.pending b ≡ Some place
  pub waits : place_of new b ≡ Some place

-- the inode had the block and has it no longer, and it is in the set of free ones
pub record IsLoose (l k : Layout) (new : FreeMapView) (at b : ℕ) : Type 0 where
  pub had : Owns l at b
  pub gone : among (owned k at) b ≡ false
  pub pending : k.pending b ≡ l.pending b
  pub frees : is_in_set new b ≡ true

-- the block is as it was
pub record IsKept (l k : Layout) (old new : FreeMapView) (at b : ℕ) : Type 0 where
  pub same : among (owned k at) b ≡ among (owned l at) b
  pub pending : k.pending b ≡ l.pending b
  pub place : place_of new b ≡ place_of old b
  pub bit : is_in_set new b ≡ is_in_set old b

abbrev pub Fate : (l k : Layout) (old new : FreeMapView) (at place b : ℕ) → Type 0
Fate l k old new at place b = IsWaiting k new place b ⊎ (IsLoose l k new at b ⊎ IsKept l k old new at b)

-- one inode has fewer blocks, and the units are as they were
pub record IsLess (l k : Layout) (at : ℕ) : Type 0 where
  pub units : k.units ≡ l.units
  pub log : k.log_blocks ≡ l.log_blocks
  pub others : (n : ℕ) → n ≢ at → owned k n ≡ owned l n

-- nothing of the map but its sets has changed
pub record IsMoved (old new : FreeMapView) : Type 0 where
  pub rest : new ≡ record old { free = new.free; pending = new.pending }
  pub sized : IsSized new
  pub ready : IsReady old → IsReady new

module _ (l k : Layout) (old new : FreeMapView) (once : IsOnceUsed l) (is : IsFreeMapOf old l) (ready : IsReady old) (at place : ℕ) (less : IsLess l k at) (moved : IsMoved old new) where
  now_ready : IsReady new
  now_ready = moved.ready ready

  now_data : (b : ℕ) → is_data_block new b ≡ is_data_block old b
  now_data b = λ i. is_data_block (moved.rest i) b

  now_bar : new.bar ≡ None
  now_bar = ap (λ (v : FreeMapView). v.bar) moved.rest ∙ is.bar

  same_volume : volume k ≡ volume l
  same_volume = λ i. record { block = 1024; first = 2 + less.log i; units = less.units i }

  module _ (b : ℕ) where
    -- ---- it waits

    waiting_used : IsWaiting k new place b → is_free_block new b ≡ is_free k b
    waiting_used w =
        false_from_ne_true _ (λ free. none-some place (sym (now_ready.apart b free) ∙ w.waits))
        ∙ sym (free_is k b ∙ and_right _ _ (and_right _ _ (ap is_none w.pending)))

    -- ---- it is free

    module _ (loose : IsLoose l k new at b) where
      none_has : (n : ℕ) → among (owned k n) b ≡ false
      none_has n = elim (cases_eq n at) [
        | inl here ↦ subst (λ (i : ℕ). among (owned k i) b ≡ false) (sym here) loose.gone
        | inr other ↦ false_from_ne_true _ (λ has. other (once.once n at b (sym (ap (λ xs. among xs b) (less.others n other)) ∙ has) loose.had))
      ]

      within : is_data (volume l) b ≡ true
      within = once.data_blocks at b loose.had

      block_free : is_free_block new b ≡ true
      block_free =
          and_from _ _ (now_data b ∙ data_is old l is b ∙ within) (and_from _ _ (ap (λ (o : Option ℕ). not (is_at_or_past o (unit_of new b))) now_bar) loose.frees)

      loose_free : is_free_block new b ≡ is_free k b
      loose_free =
          block_free ∙ sym (free_is k b ∙ and_from _ _ (ap (λ (v : Volume). is_data v b) same_volume ∙ within)
          (and_from _ _ (ap not (none_owned k b (128 * k.units) none_has)) (ap is_none (loose.pending ∙ once.not_pending at b loose.had))))

      loose_pending : place_of new b ≡ k.pending b
      loose_pending = now_ready.apart b block_free ∙ sym (loose.pending ∙ once.not_pending at b loose.had)

    -- ---- it stays

    module _ (kept : IsKept l k old new at b) where
      same_has : (n : ℕ) → among (owned k n) b ≡ among (owned l n) b
      same_has n = elim (cases_eq n at) [
        | inl here ↦ subst (λ (i : ℕ). among (owned k i) b ≡ among (owned l i) b) (sym here) kept.same
        | inr other ↦ ap (λ xs. among xs b) (less.others n other)
      ]

      kept_free : is_free_block new b ≡ is_free k b
      kept_free =
          (λ i. is_data_block (moved.rest i) b && (not (is_barred (moved.rest i) b) && kept.bit i)) ∙ is.free b
          ∙ sym (same_free l k b less.units less.log same_has kept.pending)

    free_by : Fate l k old new at place b → is_free_block new b ≡ is_free k b
    free_by (inl w) = waiting_used w
    free_by (inr (inl loose)) = loose_free loose
    free_by (inr (inr kept)) = kept_free kept

    pending_by : Fate l k old new at place b → place_of new b ≡ k.pending b
    pending_by (inl w) = w.waits ∙ sym w.pending
    pending_by (inr (inl loose)) = loose_pending loose
    pending_by (inr (inr kept)) = kept.place ∙ is.pending b ∙ sym kept.pending

  pub free_after : ((b : ℕ) → Fate l k old new at place b) → IsFreeMapOf new k
  free_after fate = record {
    free = λ b. free_by b (fate b);
    pending = λ b. pending_by b (fate b);
    units = ap (λ (v : FreeMapView). v.units) moved.rest ∙ is.units ∙ sym less.units;
    first = ap (λ (v : FreeMapView). v.first) moved.rest ∙ is.first ∙ sym (ap (λ (n : ℕ). 2 + n) less.log);
    per_unit = ap (λ (v : FreeMapView). v.per_unit) moved.rest ∙ is.per_unit;
    bar = now_bar;
    bits = moved.sized.bits;
    places = moved.sized.places;
  }
