-- Words that private clauses alone name.
pub mod Steps
pub mod Items
pub mod Forms
