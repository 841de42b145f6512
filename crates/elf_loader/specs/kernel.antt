-- the kernel of a machine
pub mod Platform
-- the file header
pub mod Header
-- the segments in memory
pub mod Memory
-- the program, the path of its interpreter, the interpreter, and the order of all rules
pub mod Program
-- a file that is loaded in part
pub mod Partly
-- how the kernel answers
pub mod Refusal
-- the texts of refusals
pub mod Texts
