-- which object of a list has a name
pub mod Resolve
-- which object a file is
pub mod ObjectTable
-- how a relocation refers to a symbol
pub mod ReferenceKinds
-- an object with the versions of its symbols, and what a reference binds to
pub mod VersionedView
pub mod Binding
-- which object with versions a file is, and the version that a symbol of a file requires
pub mod BindingObjects
pub mod Resolver
pub mod Bindings
pub mod SymbolUses
-- what is looked up and bound of a file, by its sections or by its dynamic entries
pub mod DynamicFile
-- what look-ups use of a part of a file beside the whole
pub mod Following
pub mod SymbolBindings
pub mod Missing
pub mod Needed
pub mod Readings
-- the texts of errors
pub mod Texts
pub mod inner
