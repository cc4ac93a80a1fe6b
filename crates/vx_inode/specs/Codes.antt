-- The code of a table, for the model whose value it is.
use Rattle.std.specs.Prelude.{◌≡◌, ℕ, Bool, true, false, refl}
use Rattle.std.specs.Coded.{Coded, code_by, coded×, coded_ℕ, coded_bool}
use Rattle.std.specs.FinMap as map
use Rattle.vx_base.specs.declared.call.ExtAttrs.{ExtAttrs}
use Rattle.vx_base.specs.declared.inode.Inode.{Inode}
use Rattle.vx_base.specs.declared.kind.FileKind.{FileKind}
use Rattle.vx_base.specs.declared.kind.FileKind.TheVariants.{File, Directory}
use Rattle.vx_inode.specs.Tables.{Inodes, Table}

abbrev is_directory : FileKind → Bool
is_directory File = false
is_directory Directory = true

abbrev kind_from : Bool → FileKind
kind_from false = File
kind_from true = Directory

pub kind_again : (k : FileKind) → kind_from (is_directory k) ≡ k
kind_again File = refl
kind_again Directory = refl

abbrev coded_kind : Coded FileKind
coded_kind = code_by Bool coded_bool is_directory kind_from kind_again

abbrev coded_attrs : Coded ExtAttrs
coded_attrs = code_by (ℕ × (ℕ × ℕ)) (coded× coded_ℕ (coded× coded_ℕ coded_ℕ)) (λ a. (a.fixed, (a.reserve, a.flags))) (λ p. record { fixed = p.0; reserve = p.1.0; flags = p.1.1 }) (λ _. refl)

abbrev coded_inode : Coded Inode
coded_inode =
    code_by (FileKind × (ℕ × (ℕ × (ℕ × ExtAttrs)))) (coded× coded_kind (coded× coded_ℕ (coded× coded_ℕ (coded× coded_ℕ coded_attrs))))
    (λ i. (i.kind, (i.mode, (i.nlink, (i.size, i.attrs))))) (λ p. record { kind = p.0; mode = p.1.0; nlink = p.1.1.0; size = p.1.1.1.0; attrs = p.1.1.1.1 }) (λ _. refl)

abbrev pub coded_table : Coded Table
coded_table = code_by (ℕ × Inodes) (coded× coded_ℕ (map.code coded_ℕ coded_inode)) (λ t. (t.units, t.inodes)) (λ p. record { units = p.0; inodes = p.1 }) (λ _. refl)
