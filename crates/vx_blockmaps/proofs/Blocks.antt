-- What the map of free blocks says of the blocks of a layout.
use Rattle.std.proofs.Common.{◌≡◌, ℕ, zero, suc, ◌+◌, ◌-◌, ◌*◌, Bool, true, false, not, ◌&&◌, Option, Some, None, refl, sym, ◌∙◌, ap, arith}
use Rattle.std.specs.Prelude.{is_none, is_some, ◌||◌}
use Rattle.std.proofs.lemmas.Bool.{and_from, false_from_ne_true}
use Rattle.vx_base.specs.Rules.{is_data_block as is_data_from}
use Rattle.vx_layout.specs.Places.{Volume, is_data}
use Rattle.vx_alloc.specs.FreeMaps.{FreeMapView, is_data as is_data_block, is_free as is_free_block, is_used, is_in_set, is_barred, is_at_or_past, unit_of}
use Rattle.vx_filemaps.specs.FileMaps.{IsReady}
use Rattle.vx_filemaps.specs.GiveLaws.{IsSized}
use Rattle.vx_model.specs.Images.{among}
use Rattle.vx_model.specs.Layout.{Layout, volume, owned, is_owned, is_owned_below, is_free}
use Rattle.vx_model.specs.LaidOut.{Owns, IsOnceUsed}
use Rattle.vx_model.proofs.Owning.{free_parts, free_unowned}
use Rattle.vx_blockmaps.specs.BlockMaps.{IsFreeMapOf}

-- ---- free blocks of a layout

pub free_is : (l : Layout) (b : ℕ) → is_free l b ≡ is_data (volume l) b && (not (is_owned l b) && is_none (l.pending b))
unfolding is_free
free_is l b = refl

-- no inode has the block
pub none_owned : (l : Layout) (b n : ℕ) → ((i : ℕ) → among (owned l i) b ≡ false) → is_owned_below l b n ≡ false
unfolding is_owned_below
none_owned l b zero none = refl
none_owned l b (suc n) none = rw (none n) (none_owned l b n none)

-- the inodes have the block as they had it
same_owners : (l k : Layout) (b n : ℕ) → ((i : ℕ) → among (owned k i) b ≡ among (owned l i) b) → is_owned_below k b n ≡ is_owned_below l b n
unfolding is_owned_below
same_owners l k b zero same = refl
same_owners l k b (suc n) same = ap (λ x. x || is_owned_below k b n) (same n) ∙ ap (λ x. among (owned l n) b || x) (same_owners l k b n same)

-- where the units, the owners of a block and its waiting stay as they were
pub same_free : (l k : Layout) (b : ℕ) → k.units ≡ l.units → k.log_blocks ≡ l.log_blocks → ((i : ℕ) → among (owned k i) b ≡ among (owned l i) b) → k.pending b ≡ l.pending b → is_free k b ≡ is_free l b
same_free l k b units log same pending =
    free_is k b
    ∙ ap (λ (v : Volume). is_data v b && (not (is_owned k b) && is_none (k.pending b))) (cc)
    ∙ ap (λ x. is_data (volume l) b && (not x && is_none (k.pending b))) (ap (is_owned_below k b) (ap (λ (n : ℕ). 128 * n) units) ∙ same_owners l k b (128 * l.units) same)
    ∙ ap (λ (o : Option ℕ). is_data (volume l) b && (not (is_owned l b) && is_none o)) pending
    ∙ sym (free_is l b)

-- ---- the map in memory

pub none_of : (o : Option ℕ) → is_none o ≡ true → o ≡ None
none_of None is = refl
none_of (Some x) is = absurd cc

module _ (v : FreeMapView) (l : Layout) (is : IsFreeMapOf v l) where
  pub data_is : (b : ℕ) → is_data_block v b ≡ is_data (volume l) b
  unfolding is_data
  data_is b =
      ap (λ (x : ℕ). is_data_from x v.units (4096 - v.per_unit) b) is.first ∙ ap (λ (x : ℕ). is_data_from (2 + l.log_blocks) x (4096 - v.per_unit) b) is.units
      ∙ ap (λ (x : ℕ). is_data_from (2 + l.log_blocks) l.units (4096 - x) b) is.per_unit

  pub sized : IsSized v
  sized = record { per_unit = (let e : v.per_unit ≡ 4063 = is.per_unit in omega (arith, e)); bits = is.bits; places = is.places }

  -- a free block waits for nothing
  pub ready : IsReady v
  ready = record {
    per_unit = (let e : v.per_unit ≡ 4063 = is.per_unit in omega (arith, e));
    apart = λ b free. is.pending b ∙ (free_parts l b (sym (is.free b) ∙ free)).ready;
  }

  -- where nothing is barred, a data block is free exactly where it is in the set
  pub set_is_free : (b : ℕ) → is_data_block v b ≡ true → is_in_set v b ≡ is_free_block v b
  set_is_free b within =
      sym (ap (λ (x : Bool). x && (not (is_barred v b) && is_in_set v b)) within ∙ ap (λ (o : Option ℕ). true && (not (is_at_or_past o (unit_of v b)) && is_in_set v b)) is.bar)

  -- what an inode has is used
  module _ (once : IsOnceUsed l) (n b : ℕ) (owns : Owns l n b) where
    is_block : is_data_block v b ≡ true
    is_block = data_is b ∙ once.data_blocks n b owns

    not_free : is_free_block v b ≡ false
    not_free = false_from_ne_true _ (λ free. free_unowned l once b n (sym (is.free b) ∙ free) owns)

    pub owned_used : is_used v b ≡ true
    owned_used =
        and_from _ _ is_block (and_from _ _ (ap not (set_is_free b is_block ∙ not_free)) (ap (λ (o : Option ℕ). not (is_some o)) (is.pending b ∙ once.not_pending n b owns)))
