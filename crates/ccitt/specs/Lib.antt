pub mod ByteTable
