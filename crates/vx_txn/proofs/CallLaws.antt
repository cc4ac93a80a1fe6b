-- What a call leaves and answers.
use Rattle.std.proofs.Common.{◌≡◌, ℕ, ◌+◌, ◌≤◌, List, [], ◌∷◌, length, Option, Some, None, Ok, Err, refl, sym, ◌∙◌, ap, subst, arith, Bool, true, false, cond, inl, inr}
use Rattle.std.specs.Prelude.{Result, IfOk, is_some}
use Rattle.std.specs.Option.{option_map}
use Rattle.std.specs.List.{count_by, position_or_len}
use Rattle.std.specs.Ordering.{nat_cmp}
use Rattle.std.specs.Cmp.Lexicographic.{slice_cmp, nat_list_cmp_total}
use Rattle.std.specs.FinMap as map
use Rattle.std.proofs.lemmas.Bool.{cases_Bool}
use Rattle.std.proofs.lemmas.Option.{slice_get_past}
use Rattle.std.proofs.lemmas.Slice.Eq.{bytes_eq-Decides}
use Rattle.vx_base.specs.Paths.{FileName}
use Rattle.vx_base.specs.declared.inode.DirEntry.{DirEntry}
use Rattle.vx_base.specs.declared.refusal.Refusal.{Refusal}
use Rattle.vx_base.specs.declared.reply.Reply.{Reply}
use Rattle.vx_base.specs.declared.reply.Reply.TheVariants as say
use Rattle.vx_dir.specs.Sizes.{Entries}
use Rattle.vx_dir.specs.Directories.{Directory as Names, IsKept, all_entries, entry_count, is_named, place_of, inode_in}
use Rattle.vx_model.specs.Outcome.{Maybe}
use Rattle.vx_model.specs.Reads.{entries_from}
use Rattle.vx_model.specs.State.{State, Done}
use Rattle.vx_model.specs.Touching.{Touched, IsTouched, untouched}
use Rattle.vx_txn.specs.Calls.{HasGone, IsSettled}
use Rattle.vx_txn.specs.Metas.{Stands}
use Rattle.vx_txn.specs.Replies.{FitsReply, IsShort, IsSound}
use Rattle.vx_txn.specs.declared.meta.Meta.{Meta}
use Rattle.vx_txn.proofs.EntryLaws.{get_entries, count_cons, count_all, length_all}

pub same_touched : (s : State) → IsTouched s s untouched
same_touched s = record { same_volume = refl; inodes = λ n no. refl; blocks = λ n i d no got. got; maps = λ n k c no got. got; units = λ u j h no. refl }

module _ (m : Meta) (s : State) (is : Stands m s) where
  pub stays : HasGone s s m untouched
  stays = record { state = is.is; laid_out = is.laid_out; plain = is.plain; touched = same_touched s }

  -- a call that changes nothing
  pub answered : (chain : Maybe Done) (r reply : Reply) → chain ≡ Ok (record { state = s; reply = r }) → reply ≡ r → IsSettled s chain m untouched reply
  answered chain r reply e f = subst (λ (c : Maybe Done). IsSettled s c m untouched reply) (sym e) (record { gone = stays; reply_is = f })

  pub refused_settled : (chain : Maybe Done) (why : Refusal) → chain ≡ Err why → IsSettled s chain m untouched (say.Refused why)
  refused_settled chain why e = subst (λ (c : Maybe Done). IsSettled s c m untouched (say.Refused why)) (sym e) (record { gone = stays; reply_is = refl })

-- ---- how many names there are

module _ {X : Type 0} (p : X → Bool) where
  all_before : (xs : List X) → count_by p xs ≡ 0 → length xs ≤ position_or_len p xs
  all_before [] none = omega arith
  all_before (x ∷ xs) none = elim (cases_Bool (p x)) [
    | inl hit ↦ let c : count_by p (x ∷ xs) ≡ 1 + count_by p xs = count_cons p true x xs hit in absurd (omega arith)
    | inr miss ↦
        let c : count_by p (x ∷ xs) ≡ 0 + count_by p xs = count_cons p false x xs miss in
        let q : position_or_len p (x ∷ xs) ≡ 1 + position_or_len p xs = rw miss refl in
        let rest = all_before xs (omega arith) in omega arith
  ]

not_in : (name : FileName) (es : Entries) → count_by (is_named name) es ≡ 0 → is_some (inode_in name es) ≡ false
not_in name es none = ap (λ (o : Option DirEntry). is_some (option_map (λ (e : DirEntry). e.ino) o)) (slice_get_past es (place_of name es) (all_before (is_named name) es none))

pub len_entries : (es : Entries) → ((name : FileName) → count_by (is_named name) es ≤ 1) → map.len (entries_from es) ≡ length es
len_entries [] distinct = map.len-empty (slice_cmp nat_cmp) ℕ
len_entries (e ∷ es) distinct =
    let own : is_named e.name e ≡ true = (bytes_eq-Decides e.name e.name).1 refl in
    let one : count_by (is_named e.name) (e ∷ es) ≡ 1 + count_by (is_named e.name) es = count_cons (is_named e.name) true e es own in
    let none : count_by (is_named e.name) es ≡ 0 = (let most = distinct e.name in omega arith) in
    let new : is_some (map.get (entries_from es) e.name) ≡ false = ap is_some (get_entries e.name es) ∙ not_in e.name es none in
    map.len-insert nat_list_cmp_total (entries_from es) e.name e.ino
    ∙ ap (λ (b : Bool). cond b (map.len (entries_from es)) (map.len (entries_from es) + 1)) new
    ∙ (let rest = len_entries es (λ name. let c = count_cons (is_named name) (is_named name e) e es refl in let most = distinct name in omega arith) in omega arith)

-- each name stands once
pub distinct_names : (d : Names) → IsKept d → (name : FileName) → count_by (is_named name) (all_entries d) ≤ 1
distinct_names d kept name = let few = kept.distinct name in let count = count_all name d.blocks in omega arith

pub counted_names : (d : Names) → IsKept d → map.len (entries_from (all_entries d)) ≡ entry_count d
counted_names d kept = len_entries (all_entries d) (distinct_names d kept) ∙ length_all d.blocks

pub some_of : {A : Type 0} (o : Option A) → is_some o ≡ true → (x : A) × (o ≡ Some x)
some_of None is = absurd (cc)
some_of (Some x) is = (x, refl)

pub short_sound : (r : Reply) → IsShort r → IsSound r
short_sound (say.Refused why) h = h
short_sound say.Fine h = tt
short_sound say.Begun h = absurd h
short_sound (say.Made ino) h = tt
short_sound (say.FileStat ino mode nlink size) h = tt
short_sound (say.DirStat ino mode entries) h = tt
short_sound (say.Listing names) h = absurd h
short_sound (say.Got bytes) h = absurd h
short_sound (say.Wrote len) h = absurd h
short_sound (say.Ext attrs) h = absurd h
short_sound (say.Moved from to) h = absurd h
short_sound (say.Extents extents pages maps) h = absurd h
short_sound (say.DirBlocks blocks entries) h = absurd h

-- what touches nothing fits every reply
nothing_fits : (t : Touched) (r : Reply) → t ≡ untouched → FitsReply t r
nothing_fits t (say.Made ino) none = tt
nothing_fits t say.Fine none = tt
nothing_fits t _ none = none

pub reply_fits : {E : Type 0} (t : Touched) (r : Result Reply E) → t ≡ untouched → IfOk r (FitsReply t)
reply_fits t (Ok reply) none = nothing_fits t reply none
reply_fits t (Err e) none = tt

pub replies_fit : {E : Type 0} (t : Touched) (r : Result (Reply × Reply) E) → t ≡ untouched → IfOk r (λ replies. FitsReply t replies.0)
replies_fit t (Ok replies) none = nothing_fits t replies.0 none
replies_fit t (Err e) none = tt
