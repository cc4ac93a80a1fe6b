-- An index with a block's names, one after the other.
use Rattle.std.proofs.Common.{◌≡◌, ℕ, ◌+◌, ◌<◌, ◌≤◌, Bool, true, false, cond, [], ◌∷◌, ◌++◌, length, get_or, take, Option, Some, None, is_some, refl, sym, ◌∙◌, ap}
use Rattle.std.specs.List.{count_by}
use Rattle.std.specs.Option.{option_map, option_or}
use Rattle.std.specs.FinMap as map
use Rattle.std.specs.Cmp.Lexicographic.{nat_list_cmp_total}
use Rattle.std.proofs.lemmas.List.{take_more}
use Rattle.vx_base.specs.Paths.{FileName}
use Rattle.vx_base.specs.declared.inode.DirEntry.{DirEntry}
use Rattle.vx_dir.specs.Sizes.{Entries}
use Rattle.vx_dir.specs.Directories.{is_named, holds, inode_in}
use Rattle.vx_dir.specs.declared.name_index.Spot.{Spot}
use Rattle.vx_dir.specs.Index.{Spots, spot_in, AreNew, HasGained, HasLost}
use Rattle.vx_dir.proofs.NameMap.{same_names, get_inserted, get_removed}
use Rattle.vx_dir.proofs.InBlock.{spot_at, or_none, some_after, holds_inode, inode_push, spot_push, held_at, not_before, not_in_front}

no_spot : (block : ℕ) (name : FileName) (es : Entries) → inode_in name es ≡ None → spot_in block name es ≡ None
no_spot block name es none = ap (option_map (spot_at block)) none

module _ (es : Entries) (i : ℕ) (e : DirEntry) (within : i < length es) (is : e ≡ get_or es i e) where
  front : take (i + 1) es ≡ take i es ++ e ∷ []
  front = take_more es i e within ∙ ap (λ (x : DirEntry). take i es ++ x ∷ []) (sym is)

  -- the spots with one entry more, whether it has the name or not
  gained_case : (block : ℕ) (before m : Spots) (q : FileName) (b : Bool) → is_named q e ≡ b → count_by (is_named q) es ≤ 1 → AreNew es before → HasGained block (take i es) before m
      → cond b (Some (spot_at block e.ino)) (map.get m q) ≡ option_or (map.get before q) (option_or (spot_in block q (take i es)) (cond b (Some (spot_at block e.ino)) None))
  gained_case block before m q true named once new so_far =
      let here : is_named q (get_or es i e) ≡ true = ap (is_named q) (sym is) ∙ named in
      let old : map.get before q ≡ None = new q (held_at q es i e within here) in
      let none : spot_in block q (take i es) ≡ None = no_spot block q (take i es) (not_before q es i e once within here) in
      sym (ap (λ (o : Option Spot). option_or o (option_or (spot_in block q (take i es)) (Some (spot_at block e.ino)))) old ∙ ap (λ (o : Option Spot). option_or o (Some (spot_at block e.ino))) none)
  gained_case block before m q false other once new so_far = so_far q ∙ ap (option_or (map.get before q)) (sym (or_none (spot_in block q (take i es))))

  pub gained_more : (block : ℕ) (before m after : Spots) → ((q : FileName) → count_by (is_named q) es ≤ 1) → AreNew es before → HasGained block (take i es) before m
      → after ≡ map.insert m e.name (spot_at block e.ino) → HasGained block (take (i + 1) es) before after
  gained_more block before m after distinct new so_far grown q =
      ap (λ (n : Spots). map.get n q) grown ∙ get_inserted m e.name (spot_at block e.ino) q ∙ gained_case block before m q (is_named q e) refl (distinct q) new so_far
      ∙ ap (option_or (map.get before q)) (sym (ap (spot_in block q) front ∙ spot_push block q (take i es) e))

  lost_case : (before m : Spots) (q : FileName) (b : Bool) → HasLost (take i es) before m
      → cond b None (map.get m q) ≡ cond (is_some (option_or (inode_in q (take i es)) (cond b (Some e.ino) None))) None (map.get before q)
  lost_case before m q true so_far = sym (ap (λ (b : Bool). cond b None (map.get before q)) (some_after (inode_in q (take i es)) e.ino))
  lost_case before m q false so_far = so_far q ∙ ap (λ (b : Bool). cond b None (map.get before q)) (holds_inode q (take i es) ∙ ap (λ (o : Option ℕ). is_some o) (sym (or_none (inode_in q (take i es)))))

  pub lost_more : (before m after : Spots) → HasLost (take i es) before m → after ≡ map.remove m e.name → HasLost (take (i + 1) es) before after
  lost_more before m after so_far shrunk q =
      ap (λ (n : Spots). map.get n q) shrunk ∙ get_removed m e.name q ∙ lost_case before m q (is_named q e) so_far
      ∙ ap (λ (b : Bool). cond b None (map.get before q)) (sym (holds_inode q (take (i + 1) es) ∙ ap (λ (o : Option ℕ). is_some o) (ap (inode_in q) front ∙ inode_push q (take i es) e)))

-- what the first entries gave says nothing of a name that is in none
pub others_as_before : (block : ℕ) (es : Entries) (i : ℕ) (before m : Spots) (q : FileName) → HasGained block (take i es) before m → holds q es ≡ false → map.get m q ≡ map.get before q
others_as_before block es i before m q so_far off =
    so_far q ∙ ap (option_or (map.get before q)) (no_spot block q (take i es) (not_in_front q es i off)) ∙ or_none (map.get before q)

-- new names, some of them with spots, are taken out again
pub as_before : (es : Entries) (before m after : Spots) → AreNew es before → ((q : FileName) → holds q es ≡ false → map.get m q ≡ map.get before q) → HasLost es m after → after ≡ before
as_before es before m after new others lost = map.same_map nat_list_cmp_total same_names _ _ (λ q.
    lost q ∙ elim (holds q es) as (λ (b : Bool). holds q es ≡ b → cond b None (map.get m q) ≡ map.get before q) [
      | true ↦ λ t. sym (new q t)
      | false ↦ λ t. others q t
    ] refl)
