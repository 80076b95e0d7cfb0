pub mod CarriedReports
