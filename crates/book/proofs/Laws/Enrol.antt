pub mod EnrolLaws
