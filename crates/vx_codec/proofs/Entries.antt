-- How long the entries of a directory block are.
use Rattle.std.proofs.Common.{◌≡◌, ℕ, zero, suc, ◌+◌, ◌<◌, ◌≤◌, List, [], ◌∷◌, length, take, get_or, ap, arith, length-append}
use Rattle.vx_base.specs.declared.inode.DirEntry.{DirEntry}
use Rattle.vx_layout.specs.Dirs.{entry_bytes, entries_bytes}

pub length-entry : (e : DirEntry) → length (entry_bytes e) ≡ 5 + length e.name
unfolding entry_bytes
length-entry e = omega arith

pub count_below : (es : List DirEntry) → length es ≤ length (entries_bytes es)
count_below [] = omega arith
count_below (e ∷ es) =
    omega (arith, count_below es, length-append (entry_bytes e) (entries_bytes es), length-entry e)

pub used_next : (es : List DirEntry) (i : ℕ) (e : DirEntry) → i < length es → e ≡ get_or es i e
    → length (entries_bytes (take (suc i) es)) ≡ length (entries_bytes (take i es)) + (5 + length e.name)
used_next [] i e lt is = absurd (omega arith)
used_next (x ∷ es) zero e lt is =
    omega (arith, ap (λ (y : DirEntry). length y.name) is, length-append (entry_bytes x) [], length-entry x)
used_next (x ∷ es) (suc i) e lt is =
    let left = length-append (entry_bytes x) (entries_bytes (take (suc i) es)) in
    let right = length-append (entry_bytes x) (entries_bytes (take i es)) in
    omega (arith, left, right, used_next es i e (omega arith) is)

pub used_within : (es : List DirEntry) (i : ℕ) (e : DirEntry) → i < length es → e ≡ get_or es i e
    → length (entries_bytes (take i es)) + (5 + length e.name) ≤ length (entries_bytes es)
used_within [] i e lt is = absurd (omega arith)
used_within (x ∷ es) zero e lt is =
    omega (arith, ap (λ (y : DirEntry). length y.name) is, length-append (entry_bytes x) (entries_bytes es), length-entry x)
used_within (x ∷ es) (suc i) e lt is =
    let whole = length-append (entry_bytes x) (entries_bytes es) in
    let part = length-append (entry_bytes x) (entries_bytes (take i es)) in
    omega (arith, whole, part, used_within es i e (omega arith) is)
