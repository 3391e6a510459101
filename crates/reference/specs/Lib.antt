-- The reference model of demand 3. It stands on nothing of the machine.
pub mod Reference
