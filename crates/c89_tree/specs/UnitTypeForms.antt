-- The types and declarations that the forms of a C89 program's nodes stand for.
use Rattle.model_core.specs.Types89 as m
use Rattle.model_core.specs.Program89.{Declaration}
use Rattle.c89_tree.specs.ProgramNodes89.{types}
use Rattle.c89_tree.specs.declared.unit_types.OutBase.{OutBase}
use Rattle.c89_tree.specs.declared.unit_types.OutBase.TheVariants as b
use Rattle.c89_tree.specs.declared.unit_types.OutTypeForm.{OutTypeForm}
use Rattle.c89_tree.specs.declared.unit_types.OutTypeForm.TheVariants as t
use Rattle.c89_tree.specs.declared.unit_types.OutDeclarationForm.{OutDeclarationForm}

abbrev pub base_of : OutBase → m.Base
base_of b.Void = m.Void
base_of b.Char = m.Char
base_of b.SignedChar = m.SignedChar
base_of b.UnsignedChar = m.UnsignedChar
base_of b.Short = m.Short
base_of b.UnsignedShort = m.UnsignedShort
base_of b.Int = m.Int
base_of b.UnsignedInt = m.UnsignedInt
base_of b.Long = m.Long
base_of b.UnsignedLong = m.UnsignedLong
base_of (b.Struct name) = m.Struct name

-- the type of a form
abbrev pub type_of : OutTypeForm → m.Type89
type_of (t.Based is_const base) = m.Based is_const (base_of base)
type_of (t.Pointer is_const to) = m.Pointer is_const to
type_of (t.Array count of) = m.Array count of
type_of (t.Function result parameters is_variadic) = m.Function result (types parameters) is_variadic

-- the declaration of its parts
abbrev pub declaration_of : OutDeclarationForm → Declaration
declaration_of d = record { type = d.ty; name = d.name }
