pub mod DeliveryLaws
